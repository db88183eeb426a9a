use Rattle.std.proofs.Common.{◌≡◌, ◌<◌, ◌≤◌, length, None, inl, inr, sym, ◌∙◌, arith, rules}
use Rattle.std.proofs.lemmas.Bool.{cases_lt}
use Rattle.tree_model.specs.Tree.{children_of, number_at, subs_of}
use Rattle.tree_model.proofs.ChildLemmas.{child_above, children_few, none_first, none_past}
use Rattle.create_delete.proofs.SilentLemmas.{children_silent, instances_silent}
use Rattle.create_delete.proofs.notifying.+silent.Goals as goal

pub are_kids_silent-is_silent-requires : goal.are_kids_silent-is_silent-requires
are_kids_silent-is_silent-requires g t c κs within =
    let lower : c.args.number < c.in-Some.kid = child_above (g.T.Tree.nodes c.args.tree.now) c.kid.ensures.tree c.args.number c.loop-place.place c.in-Some.kid c.in-Some.ensures.value in
    search rules

-- all were looked at
pub are_kids_silent-returns : goal.are_kids_silent-returns
are_kids_silent-returns g t c held = λ k m there.
    let nodes = g.T.Tree.nodes c.args.tree.now in
    elim (cases_lt k c.loop-place.place) [
      | inl less ↦ c.loop-place.invariant k m less there
      | inr past ↦
          let few : length (children_of c.args.number nodes) ≤ length nodes = children_few c.args.number nodes in
          let all : c.len-place-end.result ≤ c.loop-place.place = c.loop-place-test.false in
          let is : c.len-place-end.result ≡ length nodes = c.len-place-end.ensures.value in
          absurd (none_past k (children_of c.args.number nodes) m (omega arith) there)
    ]

pub is_silent-returns-in-Some-kid : goal.is_silent-returns-in-Some-kid
is_silent-returns-in-Some-kid g t c held =
    let nodes = g.T.Tree.nodes c.args.tree.now in
    let none : None ≡ number_at 0 (subs_of c.args.number nodes) = sym c.in_default.is ∙ c.sub.ensures.value in
    children_silent nodes c.requires c.args.number (none_first (subs_of c.args.number nodes) none) (c.are_kids_silent.ensures held)

-- all are instances
pub is_silent-returns-in-None : goal.is_silent-returns-in-None
is_silent-returns-in-None g t c held =
    let nodes = g.T.Tree.nodes c.args.tree.now in
    instances_silent nodes c.requires c.args.number c.instance_count.result c.instance_count.ensures (sym c.in-None.is ∙ c.kid.ensures.value)
