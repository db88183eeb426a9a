use Rattle.std.proofs.Common.{◌≡◌, ◌<◌, ◌≤◌, length, true, false, Option, Some, None, is_some, inl, inr, refl, sym, ◌∙◌, arith, rules}
use Rattle.std.proofs.lemmas.Bool.{cases_Bool, cases_lt}
use Rattle.resource_model.specs.Resource.{ResourceData}
use Rattle.tree_model.specs.Tree.{at, children_of, number_at}
use Rattle.announce_copy.specs.Below.{may_announce}
use Rattle.announce_copy.proofs.BelowLemmas.{announced_child, announced_there, child_above, children_few, missing_unsent, no_place, none_past, nothing_sent, unsent_instances, unsent_is, unsent_kids}
use Rattle.announce_copy.proofs.below.+below.Goals as goal

there_is : (o : Option ResourceData) → is_some o ≡ true → (r : ResourceData) × (o ≡ Some r)
there_is None some = (let bad : false ≡ true = some in cc)
there_is (Some r) some = (r, refl)

pub does_kid_announce-announces_below-requires : goal.does_kid_announce-announces_below-requires
does_kid_announce-announces_below-requires g t c κs within =
    let lower : c.args.number < c.in-Some.kid = child_above (g.T.Tree.nodes c.args.tree.now) c.kid.ensures.tree c.args.number c.loop-place.place c.in-Some.kid c.in-Some.ensures.value in
    search rules

-- no child stands behind the last
pub does_kid_announce-returns-in_default-clause-none : goal.does_kid_announce-returns-in_default-clause-none
does_kid_announce-returns-in_default-clause-none g t c held = λ k m there.
    let nodes = g.T.Tree.nodes c.args.tree.now in
    let absent : None ≡ number_at c.loop-place.place (children_of c.args.number nodes) = sym c.in_default.is ∙ c.kid.ensures.value in
    elim (cases_lt k c.loop-place.place) [
      | inl less ↦ c.loop-place.invariant k m less there
      | inr past ↦
          let most : length (children_of c.args.number nodes) ≤ c.loop-place.place = no_place c.loop-place.place (children_of c.args.number nodes) absent in
          absurd (none_past k (children_of c.args.number nodes) m (omega arith) there)
    ]

-- all were looked at
pub does_kid_announce-returns-clause-none : goal.does_kid_announce-returns-clause-none
does_kid_announce-returns-clause-none g t c held = λ k m there.
    let nodes = g.T.Tree.nodes c.args.tree.now in
    elim (cases_lt k c.loop-place.place) [
      | inl less ↦ c.loop-place.invariant k m less there
      | inr past ↦
          let few : length (children_of c.args.number nodes) ≤ length nodes = children_few c.args.number nodes in
          let all : c.len-place-end.result ≤ c.loop-place.place = c.loop-place-test.false in
          let is : c.len-place-end.result ≡ length nodes = c.len-place-end.ensures.value in
          absurd (none_past k (children_of c.args.number nodes) m (omega arith) there)
    ]

pub does_kid_announce-returns-then-announces_below-clause-some : goal.does_kid_announce-returns-then-announces_below-clause-some
does_kid_announce-returns-then-announces_below-clause-some g t c held =
    let nodes = g.T.Tree.nodes c.args.tree.now in
    let r = there_is (at c.args.number nodes) c.requires.there in
    announced_child nodes c.kid.ensures.tree c.args.number c.in-Some.kid c.loop-place.place r.0 r.1 c.in-Some.ensures.value (sym c.announces_below.ensures.value ∙ c.if-announces_below.true)

-- ---- whether it is announced itself

pub announces_below-returns-in_default-clause-value : goal.announces_below-returns-in_default-clause-value
announces_below-returns-in_default-clause-value g t c =
    let nodes = g.T.Tree.nodes c.args.tree.now in
    let none : None ≡ at c.args.number nodes = rw c.in_default.is at c.get.ensures.value in
    sym (unsent_is nodes c.get.ensures.tree c.args.number (missing_unsent nodes c.get.ensures.tree c.args.number (sym none)))

pub announces_below-returns-in_default-clause-none : goal.announces_below-returns-in_default-clause-none
announces_below-returns-in_default-clause-none g t c = λ held home.
    let nodes = g.T.Tree.nodes c.args.tree.now in
    let none : None ≡ at c.args.number nodes = rw c.in_default.is at c.get.ensures.value in
    nothing_sent nodes c.args.number (unsent_is nodes c.get.ensures.tree c.args.number (missing_unsent nodes c.get.ensures.tree c.args.number (sym none))) home

pub announces_below-returns-then-may_announce-clause-value : goal.announces_below-returns-then-may_announce-clause-value
announces_below-returns-then-may_announce-clause-value g t c =
    let nodes = g.T.Tree.nodes c.args.tree.now in
    sym (announced_there nodes c.get.ensures.tree c.args.number c.in-Some.resource.now (sym c.in-Some.ensures.value) (sym c.may_announce.ensures ∙ c.if-may_announce.true))

pub announces_below-returns-in-Some-kid-clause-value : goal.announces_below-returns-in-Some-kid-clause-value
announces_below-returns-in-Some-kid-clause-value g t c =
    let nodes = g.T.Tree.nodes c.args.tree.now in
    let r = c.in-Some.resource.now in
    let unannounced : may_announce nodes r ≡ false = sym c.may_announce.ensures ∙ c.if-may_announce.false in
    elim (cases_Bool c.does_kid_announce.result) [
      | inl t ↦ t ∙ sym (c.does_kid_announce.ensures.some t)
      | inr f ↦ f ∙ sym (unsent_kids nodes c.get.ensures.tree c.args.number r (sym c.in-Some.ensures.value) unannounced (c.does_kid_announce.ensures.none f))
    ]

pub announces_below-returns-in-Some-kid-clause-none : goal.announces_below-returns-in-Some-kid-clause-none
announces_below-returns-in-Some-kid-clause-none g t c = λ held home.
    let nodes = g.T.Tree.nodes c.args.tree.now in
    let r = c.in-Some.resource.now in
    let unannounced : may_announce nodes r ≡ false = sym c.may_announce.ensures ∙ c.if-may_announce.false in
    nothing_sent nodes c.args.number (unsent_kids nodes c.get.ensures.tree c.args.number r (sym c.in-Some.ensures.value) unannounced (c.does_kid_announce.ensures.none held)) home

-- all children are instances
pub announces_below-returns-in-None-clause-value : goal.announces_below-returns-in-None-clause-value
announces_below-returns-in-None-clause-value g t c =
    let nodes = g.T.Tree.nodes c.args.tree.now in
    let r = c.in-Some.resource.now in
    let unannounced : may_announce nodes r ≡ false = sym c.may_announce.ensures ∙ c.if-may_announce.false in
    sym (unsent_instances nodes c.requires c.args.number c.instance_count.result r (sym c.in-Some.ensures.value) unannounced c.instance_count.ensures (sym c.in-None.is ∙ c.kid.ensures.value))

pub announces_below-returns-in-None-clause-none : goal.announces_below-returns-in-None-clause-none
announces_below-returns-in-None-clause-none g t c = λ held home.
    let nodes = g.T.Tree.nodes c.args.tree.now in
    let r = c.in-Some.resource.now in
    let unannounced : may_announce nodes r ≡ false = sym c.may_announce.ensures ∙ c.if-may_announce.false in
    nothing_sent nodes c.args.number (unsent_instances nodes c.requires c.args.number c.instance_count.result r (sym c.in-Some.ensures.value) unannounced c.instance_count.ensures (sym c.in-None.is ∙ c.kid.ensures.value)) home
