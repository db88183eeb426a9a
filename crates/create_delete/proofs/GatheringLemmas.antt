-- The numbers that were gathered, in order and each once, are those of a resource and of all that stands below it.
use Rattle.std.specs.Prelude.{nat_eq}
use Rattle.std.proofs.Common.{◌≡◌, ℕ, List, [], true, false, ◌&&◌, inl, inr, refl, sym, ◌∙◌}
use Rattle.std.proofs.lemmas.Bool.{and_parts, both_ways, cases_Bool}
use Rattle.std.specs.List.{filter, list_any}
use Rattle.std.specs.List.Retain.{DiffersFromLast, IsFiltered}
use Rattle.std.specs.List.Sorted.{IsPermutation, IsSorted}
use Rattle.std.specs.Ordering.{nat_cmp}
use Rattle.resource_model.specs.Resource.{ResourceData}
use Rattle.tree_model.specs.Tree.{has, is_at_or_below, is_tree, Gathers}
use Rattle.tree_model.proofs.AmongLemmas.{among_numbers, both_hold, found_left, left_ascends, left_found, same_numbers}
use Rattle.tree_model.proofs.BelowLemmas.{in_line, no_line}
use Rattle.tree_model.proofs.GrowthLemmas.{ascending_from_tree, has-filter}
use Rattle.tree_model.proofs.ManyLemmas.{ascending_filter}
use Rattle.tree_model.proofs.TreeLemmas.{at_none}
use Rattle.create_delete.specs.Telling.{numbers_below}

module _ (n : ℕ) (nodes : List ResourceData) (tree : is_tree nodes ≡ true) (found sorted left : List ℕ) (gathers : Gathers n nodes [] found) (perm : IsPermutation found sorted) (order : IsSorted nat_cmp sorted) (filtered : IsFiltered (DiffersFromLast nat_eq) [] sorted left) where
  listed : (m : ℕ) → list_any (nat_eq m) (numbers_below n nodes) ≡ (has m nodes && in_line nodes n m)
  listed m = among_numbers m (filter (is_at_or_below n nodes) nodes) ∙ has-filter (in_line nodes n) m nodes

  in_both : (m : ℕ) → in_line nodes n m ≡ true → (has m nodes && in_line nodes n m) ≡ true
  in_both m t = elim (cases_Bool (has m nodes)) [
    | inl there ↦ rw (there, t) refl
    | inr none ↦ absurd (both_ways _ (no_line nodes tree n m (at_none m nodes none)) t)
  ]

  pub gathered_are : left ≡ numbers_below n nodes
  gathered_are =
      same_numbers left (numbers_below n nodes)
      (left_ascends found sorted left perm filtered order)
      (ascending_filter (is_at_or_below n nodes) nodes (ascending_from_tree nodes tree))
      (λ m. both_hold _ _
      (λ t. elim (gathers.only m (left_found found sorted left perm filtered m t)) [
        | inl none ↦ absurd (both_ways false refl none)
        | inr line ↦ listed m ∙ in_both m line
      ])
      (λ t. found_left found sorted left perm filtered m (gathers.finds m (and_parts (has m nodes) (in_line nodes n m) (sym (listed m) ∙ t)).1)))
