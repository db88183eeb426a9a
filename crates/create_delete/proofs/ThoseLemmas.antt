-- The resources of the numbers that a limit pushes out, in the order of the numbers, are those of a tree that have one of them.
use Rattle.std.proofs.Common.{◌≡◌, ℕ, List, [], ◌∷◌, Bool, true, not, ◌&&◌, Option, None, inl, inr, refl, sym, ap, ◌∙◌, subst}
use Rattle.std.proofs.lemmas.Bool.{cases_Bool}
use Rattle.std.specs.List.{filter}
use Rattle.resource_model.specs.Resource.{ResourceData}
use Rattle.tree_model.specs.Tree.{has, instances_of, is_instance, is_tree}
use Rattle.tree_model.proofs.AmongLemmas.{among_numbers}
use Rattle.tree_model.proofs.OrderLemmas.{placed_stands, tree_ascends}
use Rattle.container_limits.specs.Limits.{evicted, kept, limits_of, numbers_of}
use Rattle.container_limits.specs.declared.limits.Limits.{Limits}
use Rattle.entity_model.specs.Entity.{EntityData}
use Rattle.entity_model.proofs.ExpiryLemmas.{those_all}
use Rattle.create_delete.specs.Changes.{those_of}
use Rattle.create_delete.specs.Changing.{is_numbered_in, pushed_by}
use Rattle.create_delete.proofs.GrownLemmas.{picked_never}
use Rattle.create_delete.proofs.KeptLemmas.{in_kept}
use Rattle.create_delete.proofs.PushingLemmas.{by_pushing}
use Rattle.tree_model.proofs.TreeLemmas.{filter_among}

filter_both : (p q : ResourceData → Bool) (rs : List ResourceData) → filter q (filter p rs) ≡ filter (λ s. p s && q s) rs
filter_both p q [] = refl
filter_both p q (r ∷ rs) = elim (cases_Bool (p r)) [
  | inl t ↦ elim (cases_Bool (q r)) [
    | inl u ↦ rw (t, u) (ap (λ (ss : List ResourceData). r ∷ ss) (filter_both p q rs))
    | inr v ↦ rw (t, v) (filter_both p q rs)
  ]
  | inr f ↦ rw f (filter_both p q rs)
]

-- those of the numbers of what a test picks
those_picked : (p : ResourceData → Bool) (nodes : List ResourceData) → is_tree nodes ≡ true → those_of (numbers_of (filter p nodes)) nodes ≡ filter (is_numbered_in (numbers_of (filter p nodes))) nodes
those_picked p nodes tree =
    those_all nodes (filter p nodes) (λ k s got. placed_stands p nodes k s tree got)
    ∙ sym (in_kept p nodes (tree_ascends nodes tree) [] (filter p nodes) refl)
    ∙ sym (filter_among (is_numbered_in (numbers_of (filter p nodes))) (λ s. has s.number (filter p nodes)) nodes (λ s there. among_numbers s.number (filter p nodes)))

-- those that the limits of a container push out
pub those_evicted : (limits : Limits) (size : Option ℕ) (moment n : ℕ) (nodes : List ResourceData) → is_tree nodes ≡ true → those_of (evicted limits size moment (instances_of n nodes)) nodes ≡ filter (is_numbered_in (evicted limits size moment (instances_of n nodes))) nodes
those_evicted limits size moment n nodes tree =
    let goes : ResourceData → Bool = λ s. not (has s.number (kept limits size moment (instances_of n nodes))) in
    subst (λ (rs : List ResourceData). those_of (numbers_of rs) nodes ≡ filter (is_numbered_in (numbers_of rs)) nodes) (sym (filter_both (is_instance n) goes nodes))
    (those_picked (λ s. is_instance n s && goes s) nodes tree)

-- and so are their numbers
numbers_picked : (p : ResourceData → Bool) (nodes : List ResourceData) → is_tree nodes ≡ true → numbers_of (filter (is_numbered_in (numbers_of (filter p nodes))) nodes) ≡ numbers_of (filter p nodes)
numbers_picked p nodes tree =
    ap numbers_of (sym (those_picked p nodes tree) ∙ those_all nodes (filter p nodes) (λ k s got. placed_stands p nodes k s tree got))

pub numbers_evicted : (limits : Limits) (size : Option ℕ) (moment n : ℕ) (nodes : List ResourceData) → is_tree nodes ≡ true → numbers_of (filter (is_numbered_in (evicted limits size moment (instances_of n nodes))) nodes) ≡ evicted limits size moment (instances_of n nodes)
numbers_evicted limits size moment n nodes tree =
    let goes : ResourceData → Bool = λ s. not (has s.number (kept limits size moment (instances_of n nodes))) in
    subst (λ (rs : List ResourceData). numbers_of (filter (is_numbered_in (numbers_of rs)) nodes) ≡ numbers_of rs) (sym (filter_both (is_instance n) goes nodes))
    (numbers_picked (λ s. is_instance n s && goes s) nodes tree)

-- those that an update pushes out
pub those_pushed : (e : EntityData) (c : ResourceData) → is_tree e.nodes ≡ true → those_of (pushed_by e c) e.nodes ≡ filter (is_numbered_in (pushed_by e c)) e.nodes
those_pushed e c tree =
    by_pushing (λ (gone : List ℕ). those_of gone e.nodes ≡ filter (is_numbered_in gone) e.nodes) e c
    (λ t. those_evicted (limits_of c) None e.last c.number e.nodes tree)
    (λ f. sym (picked_never e.nodes))

pub numbers_pushed : (e : EntityData) (c : ResourceData) → is_tree e.nodes ≡ true → numbers_of (filter (is_numbered_in (pushed_by e c)) e.nodes) ≡ pushed_by e c
numbers_pushed e c tree =
    by_pushing (λ (gone : List ℕ). numbers_of (filter (is_numbered_in gone) e.nodes) ≡ gone) e c
    (λ t. numbers_evicted (limits_of c) None e.last c.number e.nodes tree)
    (λ f. ap numbers_of (picked_never e.nodes))
