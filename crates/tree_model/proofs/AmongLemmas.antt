-- Whether a number is among those of some resources; lists that ascend and have the same numbers are the same.
use Rattle.std.specs.Prelude.{nat_eq, ◌==◌}
use Rattle.std.proofs.Common.{◌≡◌, ℕ, ◌<◌, ◌≤◌, List, [], ◌∷◌, Bool, true, false, ◌&&◌, ◌||◌, not, inl, inr, refl, sym, ap, ◌∙◌, subst, arith}
use Rattle.std.proofs.lemmas.Bool.{both_ways, cases_Bool, cases_eq, eq-eqb, eqb-true, ne_eqb, or_cases, or_left}
use Rattle.std.proofs.lemmas.List.Filters.{dedup_is}
use Rattle.std.proofs.lemmas.List.Kept.{Contains-dedup_nat, Contains-from_dedup}
use Rattle.std.proofs.lemmas.List.Sorted.{Contains-permutation, IsPermutation-sym}
use Rattle.std.proofs.lemmas.Map.Keys.{IsStrictlyIncreasing-dedup, sorted_from_strictly_increasing}
use Rattle.std.proofs.lemmas.Map.Views.{Contains-from_any, list_any-from_Contains}
use Rattle.std.specs.Cmp.{IsEquivalence}
use Rattle.std.specs.List.{AllByRecursion, Contains, dedup, filter, list_any}
use Rattle.std.specs.List.Retain.{DiffersFromLast, IsFiltered}
use Rattle.std.specs.List.Sorted.{IsPermutation, IsSorted, IsStrictlySortedBy}
use Rattle.std.specs.Ordering.{nat_cmp}
use Rattle.std.specs.declared.cmp.Ordering.TheVariants.{Less}
use Rattle.resource_model.specs.Resource.{ResourceData}
use Rattle.tree_model.specs.Tree.{has, numbers_of, DoAscend}
use Rattle.tree_model.proofs.GrowthLemmas.{has-filter}
use Rattle.tree_model.proofs.NumberLemmas.{less_is}

-- ---- the numbers of some resources

pub eqb_sym : (a b : ℕ) → (a == b) ≡ (b == a)
eqb_sym a b = elim (cases_eq a b) [
  | inl e ↦ eq-eqb a b e ∙ sym (eq-eqb b a (sym e))
  | inr ne ↦ ne_eqb a b ne ∙ sym (ne_eqb b a (λ e. ne (sym e)))
]

-- a number among those of some resources
pub among_numbers : (n : ℕ) (rs : List ResourceData) → list_any (nat_eq n) (numbers_of rs) ≡ has n rs
among_numbers n [] = refl
among_numbers n (r ∷ rs) = ap (λ b. b || list_any (nat_eq n) (numbers_of rs)) (eqb_sym n r.number) ∙ ap (λ b. (r.number == n) || b) (among_numbers n rs)

-- a number among those of what isn't among others
pub is_not_kept : (kept rs : List ResourceData) (n : ℕ) → list_any (nat_eq n) (numbers_of (filter (λ s. not (has s.number kept)) rs)) ≡ (has n rs && not (has n kept))
is_not_kept kept rs n = among_numbers n (filter (λ s. not (has s.number kept)) rs) ∙ has-filter (λ m. not (has m kept)) n rs

-- ---- numbers that ascend

pub both_hold : (a b : Bool) → (a ≡ true → b ≡ true) → (b ≡ true → a ≡ true) → a ≡ b
both_hold true b into from = sym (into refl)
both_hold false b into from = elim (cases_Bool b) [ inl t ↦ from t ∙ sym t | inr f ↦ sym f ]

above_each : (x : ℕ) (ns : List ℕ) → AllByRecursion (λ y. nat_cmp x y ≡ Less) ns → (m : ℕ) → list_any (nat_eq m) ns ≡ true → x < m
above_each x [] all m t = absurd (both_ways false refl t)
above_each x (n ∷ ns) all m t = elim (or_cases (nat_eq m n) (list_any (nat_eq m) ns) t) [
  | inl own ↦ subst (λ (j : ℕ). x < j) (sym (eqb-true m n own)) (less_is x n all.0)
  | inr rest ↦ above_each x ns all.1 m rest
]

first_in : (n : ℕ) (ns : List ℕ) → list_any (nat_eq n) (n ∷ ns) ≡ true
first_in n ns = or_left _ _ (eq-eqb n n refl)

-- with the same numbers they are the same
pub same_numbers : (xs ys : List ℕ) → DoAscend xs → DoAscend ys → ((m : ℕ) → list_any (nat_eq m) xs ≡ list_any (nat_eq m) ys) → xs ≡ ys
unfolding IsStrictlySortedBy
same_numbers [] [] order other same = refl
same_numbers [] (y ∷ ys) order other same = absurd (both_ways _ (sym (same y)) (first_in y ys))
same_numbers (x ∷ xs) [] order other same = absurd (both_ways _ (same x) (first_in x xs))
same_numbers (x ∷ xs) (y ∷ ys) order other same =
    ap (λ (n : ℕ). n ∷ xs) heads ∙ ap (λ (ns : List ℕ). y ∷ ns) (same_numbers xs ys order.1 other.1 tails)
  where
    behind : (a b : ℕ) (bs : List ℕ) → AllByRecursion (λ z. nat_cmp b z ≡ Less) bs → list_any (nat_eq a) (b ∷ bs) ≡ true → b ≤ a
    behind a b bs all t = elim (or_cases (nat_eq a b) (list_any (nat_eq a) bs) t) [
      | inl own ↦ (let is : a ≡ b = eqb-true a b own in omega (arith, is))
      | inr rest ↦ (let less : b < a = above_each b bs all a rest in omega (arith, less))
    ]

    heads : x ≡ y
    heads =
        let one : y ≤ x = behind x y ys other.0 (sym (same x) ∙ first_in x xs) in
        let two : x ≤ y = behind y x xs order.0 (same y ∙ first_in y ys) in
        omega (arith, one, two)

    tails : (m : ℕ) → list_any (nat_eq m) xs ≡ list_any (nat_eq m) ys
    tails m = elim (cases_Bool (nat_eq m x)) [
      | inl own ↦
          let is : m ≡ x = eqb-true m x own in
          none_of m x xs order.0 is ∙ sym (none_of m y ys other.0 (is ∙ heads))
      | inr apart ↦
          let apart_too : nat_eq m y ≡ false = ap (nat_eq m) (sym heads) ∙ apart in
          let both : (nat_eq m x || list_any (nat_eq m) xs) ≡ (nat_eq m y || list_any (nat_eq m) ys) = same m in
          rw (apart, apart_too) at both
    ]
      where
        none_of : (m b : ℕ) (bs : List ℕ) → AllByRecursion (λ z. nat_cmp b z ≡ Less) bs → m ≡ b → list_any (nat_eq m) bs ≡ false
        none_of m b bs all is = elim (cases_Bool (list_any (nat_eq m) bs)) [
          | inl t ↦ (let less : b < m = above_each b bs all m t in absurd (omega (arith, less, is)))
          | inr f ↦ f
        ]

equality : IsEquivalence nat_eq
equality = record {
  refl = λ x. eq-eqb x x refl;
  symm = λ x y. eqb_sym x y;
  congr = λ x y z t. ap (λ (n : ℕ). nat_eq n z) (eqb-true x y t);
}

-- ---- in order, each once

module _ (found sorted left : List ℕ) (perm : IsPermutation found sorted) (filtered : IsFiltered (DiffersFromLast nat_eq) [] sorted left) where
  left_is : left ≡ dedup nat_eq sorted
  left_is = dedup_is nat_eq sorted left filtered

  pub found_left : (m : ℕ) → list_any (nat_eq m) found ≡ true → list_any (nat_eq m) left ≡ true
  found_left m t =
      list_any-from_Contains equality m left
      (subst (λ (ns : List ℕ). Contains ns m) (sym left_is)
      (Contains-dedup_nat sorted m (Contains-permutation found sorted m perm (Contains-from_any (λ x y s. eqb-true x y s) m found t))))

  pub left_found : (m : ℕ) → list_any (nat_eq m) left ≡ true → list_any (nat_eq m) found ≡ true
  left_found m t =
      list_any-from_Contains equality m found
      (Contains-permutation sorted found m (IsPermutation-sym found sorted perm)
      (Contains-from_dedup nat_eq sorted m (subst (λ (ns : List ℕ). Contains ns m) left_is (Contains-from_any (λ x y s. eqb-true x y s) m left t))))

  pub left_ascends : IsSorted nat_cmp sorted → DoAscend left
  left_ascends order = subst DoAscend (sym left_is) (sorted_from_strictly_increasing _ (IsStrictlyIncreasing-dedup sorted order))
