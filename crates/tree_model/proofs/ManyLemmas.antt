-- Removals of several numbers.
use Rattle.std.specs.Prelude.{nat_eq}
use Rattle.std.proofs.Common.{◌≡◌, ℕ, List, [], ◌∷◌, Bool, true, false, ◌||◌, inl, inr, refl}
use Rattle.std.proofs.lemmas.Bool.{cases_Bool}
use Rattle.std.specs.List.{AllByRecursion, filter, list_any}
use Rattle.std.specs.List.Sorted.{IsStrictlySortedBy}
use Rattle.resource_model.specs.Resource.{ResourceData, has_number}
use Rattle.tree_model.specs.Tree.{numbers_of, without, without_all, is_numbered_in, is_tree, AreAscending, DoAscend}
use Rattle.tree_model.proofs.GrowthLemmas.{ascending_from_tree}
use Rattle.tree_model.proofs.LiveLemmas.{without_none}
use Rattle.tree_model.proofs.TreeLemmas.{staying-same}

or_none : (b : Bool) → b ≡ (b || false)
or_none true = refl
or_none false = refl

-- the removal of one number is that of the resource which has it
pub one_removed : (n : ℕ) (nodes : List ResourceData) → without (has_number n) nodes ≡ without_all (n ∷ []) nodes
one_removed n nodes = staying-same (has_number n) (is_numbered_in (n ∷ [])) (λ r. or_none (nat_eq r.number n)) [] nodes

-- of no numbers nothing is removed
pub nothing_removed : (nodes : List ResourceData) → is_tree nodes ≡ true → without_all [] nodes ≡ nodes
nothing_removed nodes tree = without_none (is_numbered_in []) nodes tree (none nodes)
  where
    none : (rs : List ResourceData) → list_any (is_numbered_in []) rs ≡ false
    none [] = refl
    none (r ∷ rs) = none rs

all_kept : (P : ℕ → Type 0) (p : ResourceData → Bool) (rs : List ResourceData) → AllByRecursion P (numbers_of rs) → AllByRecursion P (numbers_of (filter p rs))
all_kept P p [] all = tt
all_kept P p (r ∷ rs) all = elim (cases_Bool (p r)) [
  | inl t ↦ rw t (all.0, all_kept P p rs all.1)
  | inr f ↦ rw f (all_kept P p rs all.1)
]

-- numbers that ascend still do where some go
pub ascending_filter : (p : ResourceData → Bool) (rs : List ResourceData) → AreAscending rs → DoAscend (numbers_of (filter p rs))
unfolding IsStrictlySortedBy
ascending_filter p [] order = tt
ascending_filter p (r ∷ rs) order = elim (cases_Bool (p r)) [
  | inl t ↦ rw t (all_kept _ p rs order.0, ascending_filter p rs order.1)
  | inr f ↦ rw f (ascending_filter p rs order.1)
]

-- the numbers of what two tests pick of a tree ascend
pub picked_ascend : (p q : ResourceData → Bool) (nodes : List ResourceData) → is_tree nodes ≡ true → DoAscend (numbers_of (filter q (filter p nodes)))
picked_ascend p q nodes tree = ascending_filter q (filter p nodes) (ascending_filter p nodes (ascending_from_tree nodes tree))
