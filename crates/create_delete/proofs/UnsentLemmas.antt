-- After which changes no copy follows: of what lists no CSE, and of instances whose container lists none.
use Rattle.std.proofs.Common.{◌≡◌, ℕ, List, [], ◌∷◌, ◌++◌, map, Bool, false, true, not, ◌&&◌, Option, None, Some, inl, inr, refl, sym, ap, ◌∙◌, subst}
use Rattle.std.proofs.lemmas.Bool.{and_parts, cases_Bool}
use Rattle.std.proofs.lemmas.Option.{same_Some}
use Rattle.std.specs.List.{filter}
use Rattle.std.specs.Option.{option_map_or}
use Rattle.m2m_names.specs.declared.attributes.Attr.{Attr}
use Rattle.m2m_names.specs.declared.types.Ty.TheVariants.{Container, ContentInstance}
use Rattle.resource_model.specs.Home.{HomeData}
use Rattle.resource_model.specs.Resource.{ResourceData, is_ty}
use Rattle.tree_model.specs.Changes.{created, deleted, creation_changes, removal_changes, update_changes}
use Rattle.tree_model.specs.Tree.{at, has, instance_size, instances_of, is_instance, is_tree}
use Rattle.tree_model.proofs.GrowthLemmas.{tree_from_well_formed}
use Rattle.tree_model.proofs.OrderLemmas.{placed_stands}
use Rattle.tree_model.proofs.TreeLemmas.{at_number, kin_parts}
use Rattle.announce_copy.specs.Below.{lists_peers, may_announce}
use Rattle.announce_copy.specs.Copies.{CopyDraft, copies_of, copies_of_all}
use Rattle.announce_copy.proofs.BelowLemmas.{no_peers, unsent_creation, unsent_update}
use Rattle.container_limits.specs.Limits.{evicted, kept, limits_of, numbers_of}
use Rattle.container_limits.specs.declared.limits.Limits.{Limits}
use Rattle.entity_model.specs.Entity.{EntityData, copy_requests}
use Rattle.entity_model.specs.Sound.{IsSoundEntity}
use Rattle.entity_model.proofs.ExpiryLemmas.{those_all}
use Rattle.entity_model.proofs.TellingLemmas.{none_requested}
use Rattle.create_delete.specs.Changes.{those_of}
use Rattle.create_delete.specs.Changing.{pushed_by, pushed_out}
use Rattle.create_delete.specs.Joining.{MayJoin, gone_by}
use Rattle.create_delete.specs.Telling.{GoUnsent, copies_may_follow}
use Rattle.create_delete.specs.declared.joining.ContainerUpdate.{ContainerUpdate}

-- ---- instances of a container that lists no CSE

unannounced : (nodes : List ResourceData) (c r : ResourceData) → at r.parent nodes ≡ Some c → lists_peers c ≡ false → is_ty r.ty ContentInstance ≡ true → may_announce nodes r ≡ false
unannounced nodes c r there none instance =
    let above : option_map_or lists_peers (at r.parent nodes) false ≡ false =
    ap (λ (o : Option ResourceData). option_map_or lists_peers o false) there ∙ none in
    rw (instance, above) (no_longer (lists_peers r))
  where
    no_longer : (b : Bool) → (b && false) ≡ false
    no_longer true = refl
    no_longer false = refl

-- none is sent where some of them go
none_gone : (home : HomeData) (nodes : List ResourceData) (c : ResourceData) → at c.number nodes ≡ Some c → lists_peers c ≡ false → (p : ResourceData → Bool) (rs : List ResourceData) → copies_of_all home nodes (map deleted (filter (λ s. is_instance c.number s && p s) rs)) ≡ []
none_gone home nodes c there none p [] = refl
none_gone home nodes c there none p (r ∷ rs) = elim (cases_Bool (is_instance c.number r && p r)) [
  | inl t ↦
      let kin = kin_parts ContentInstance c.number r (and_parts (is_instance c.number r) (p r) t).0 in
      let under : at r.parent nodes ≡ Some c = ap (λ (n : ℕ). at n nodes) kin.under ∙ there in
      let own : copies_of home nodes (deleted r) ≡ [] = rw (no_peers nodes r (unannounced nodes c r under none kin.kind)) refl in
      rw t (ap (λ (ds : List CopyDraft). ds ++ copies_of_all home nodes (map deleted (filter (λ s. is_instance c.number s && p s) rs))) own ∙ none_gone home nodes c there none p rs)
  | inr f ↦ rw f (none_gone home nodes c there none p rs)
]

pub filter_both : (p q : ResourceData → Bool) (rs : List ResourceData) → filter q (filter p rs) ≡ filter (λ s. p s && q s) rs
filter_both p q [] = refl
filter_both p q (r ∷ rs) = elim (cases_Bool (p r)) [
  | inl t ↦ elim (cases_Bool (q r)) [
    | inl u ↦ rw (t, u) (ap (λ (ss : List ResourceData). r ∷ ss) (filter_both p q rs))
    | inr v ↦ rw (t, v) (filter_both p q rs)
  ]
  | inr f ↦ rw f (filter_both p q rs)
]

-- or where its limits push some out
none_evicted : (home : HomeData) (nodes : List ResourceData) (c : ResourceData) (limits : Limits) (size : Option ℕ) (moment : ℕ) → is_tree nodes ≡ true → at c.number nodes ≡ Some c → lists_peers c ≡ false → copies_of_all home nodes (map deleted (those_of (evicted limits size moment (instances_of c.number nodes)) nodes)) ≡ []
none_evicted home nodes c limits size moment tree there none =
    let goes : ResourceData → Bool = λ s. not (has s.number (kept limits size moment (instances_of c.number nodes))) in
    let both : ResourceData → Bool = λ s. is_instance c.number s && goes s in
    subst (λ (rs : List ResourceData). copies_of_all home nodes (map deleted (those_of (numbers_of rs) nodes)) ≡ []) (sym (filter_both (is_instance c.number) goes nodes))
    (subst (λ (rs : List ResourceData). copies_of_all home nodes (map deleted rs) ≡ []) (sym (those_all nodes (filter both nodes) (λ k s got. placed_stands both nodes k s tree got)))
    (none_gone home nodes c there none goes nodes))

-- ---- a resource that joins

unsent_join : (e : EntityData) (c r : ResourceData) (f : Option ContainerUpdate) → IsSoundEntity e → at r.parent e.nodes ≡ Some c → MayJoin e r f → copies_may_follow c r ≡ false → copies_of_all e.home e.nodes (creation_changes e.nodes r (gone_by f)) ≡ []
unsent_join e c r None sound there may none =
    let lists : lists_peers r ≡ false = rw may.1 at none in
    ap (λ (ds : List CopyDraft). ds ++ []) (unsent_creation e.home e.nodes r lists)
unsent_join e c r (Some f) sound there may none =
    let instance : is_ty r.ty ContentInstance ≡ true = may.joins.instance in
    let lists : lists_peers c ≡ false = rw instance at none in
    let own : copies_of e.home e.nodes (created r) ≡ [] = rw (no_peers e.nodes r (unannounced e.nodes c r there lists instance)) refl in
    let same : may.parent ≡ c = same_Some may.parent c (sym may.joins.container ∙ there) in
    let stands : at c.number e.nodes ≡ Some c = ap (λ (n : ℕ). at n e.nodes) (at_number r.parent e.nodes c there) ∙ there in
    let goes : copies_of_all e.home e.nodes (map deleted (those_of f.gone e.nodes)) ≡ [] =
    subst (λ (gone : List ℕ). copies_of_all e.home e.nodes (map deleted (those_of gone e.nodes)) ≡ []) (sym may.gone)
    (subst (λ (p : ResourceData). copies_of_all e.home e.nodes (map deleted (those_of (evicted (limits_of p) (Some (instance_size r)) e.last (instances_of p.number e.nodes)) e.nodes)) ≡ []) (sym same)
    (none_evicted e.home e.nodes c (limits_of c) (Some (instance_size r)) e.last (tree_from_well_formed e.nodes sound.tree) stands lists)) in
    ap (λ (ds : List CopyDraft). ds ++ copies_of_all e.home e.nodes (map deleted (those_of f.gone e.nodes))) own ∙ goes

-- where no copy may follow it, none is asked for
pub unsent_joined : (e : EntityData) (c r : ResourceData) (f : Option ContainerUpdate) → IsSoundEntity e → at r.parent e.nodes ≡ Some c → MayJoin e r f → copies_may_follow c r ≡ false → copy_requests e.home e.nodes (creation_changes e.nodes r (gone_by f)) ≡ []
unsent_joined e c r f sound there may none = none_requested e.home e.nodes (creation_changes e.nodes r (gone_by f)) (unsent_join e c r f sound there may none)

-- the same of what is made as a Create makes it, with what that pushes out
pub unsent_made : (e : EntityData) (c r made : ResourceData) (f pushes : Option ContainerUpdate) (follows : Bool) → made ≡ r → pushes ≡ f → IsSoundEntity e → at r.parent e.nodes ≡ Some c → MayJoin e r f → follows ≡ copies_may_follow c made → follows ≡ false → copy_requests e.home e.nodes (creation_changes e.nodes made (gone_by pushes)) ≡ []
unsent_made e c r made f pushes follows same same_gone sound there may says none =
    subst (λ (s : ResourceData). copy_requests e.home e.nodes (creation_changes e.nodes s (gone_by pushes)) ≡ []) (sym same)
    (subst (λ (o : Option ContainerUpdate). copy_requests e.home e.nodes (creation_changes e.nodes r (gone_by o)) ≡ []) (sym same_gone)
    (unsent_joined e c r f sound there may (ap (copies_may_follow c) (sym same) ∙ sym says ∙ none)))

-- ---- an Update

-- what a container pushes out
pub pushed_unsent : (e : EntityData) (now : ResourceData) → is_tree e.nodes ≡ true → GoUnsent e.home e.nodes now.number (pushed_by e now)
pushed_unsent e now tree r there none = elim (cases_Bool (is_ty now.ty Container)) [
  | inl t ↦ rw t pushed
  | inr f ↦ rw f refl
]
  where
    number : r.number ≡ now.number
    number = at_number now.number e.nodes r there

    stands : at r.number e.nodes ≡ Some r
    stands = ap (λ (n : ℕ). at n e.nodes) number ∙ there

    pushed : copies_of_all e.home e.nodes (removal_changes e.nodes (pushed_out e now None)) ≡ []
    pushed = subst (λ (n : ℕ). copies_of_all e.home e.nodes (map deleted (those_of (evicted (limits_of now) None e.last (instances_of n e.nodes)) e.nodes)) ≡ []) number (none_evicted e.home e.nodes r (limits_of now) None e.last tree stands none)

-- where neither what it found nor what it leaves lists a CSE, no copy is asked for
pub unsent_updated : (home : HomeData) (nodes : List ResourceData) (before after : ResourceData) (named : List Attr) (gone : List ℕ) → at after.number nodes ≡ Some before → GoUnsent home nodes after.number gone → lists_peers before ≡ false → lists_peers after ≡ false → copy_requests home nodes (update_changes nodes before after named gone) ≡ []
unsent_updated home nodes before after named gone there goes old new =
    none_requested home nodes (update_changes nodes before after named gone)
    (ap (λ (ds : List CopyDraft). ds ++ copies_of_all home nodes (removal_changes nodes gone)) (unsent_update home nodes before after named old new)
    ∙ goes before there old)
