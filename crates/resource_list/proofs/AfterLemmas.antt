-- What comes after a number in a list whose numbers ascend.
use Rattle.std.specs.Prelude.{nat_le, nat_lt}
use Rattle.std.proofs.Common.{◌≡◌, ℕ, zero, suc, ◌<◌, ◌≤◌, List, [], ◌∷◌, length, drop, find, get_or, Bool, true, false, inl, inr, refl, sym, ap, ◌∙◌, arith}
use Rattle.std.proofs.lemmas.Bool.{cases_Bool, cases_lt, leb-true, leb-false, lt-ltb, le-ltb}
use Rattle.std.specs.List.{filter, slice_get}
use Rattle.std.specs.List.Sorted.{IsNonDecreasingBy, IsPartitionPoint}
use Rattle.resource_model.specs.Resource.{ResourceData}
use Rattle.tree_model.specs.Tree.{all_after, comes_after, next_after, AreAscending}
use Rattle.resource_list.proofs.PlaceLemmas.{number_order}

-- ---- after a number

pub never_less : (nodes : List ResourceData) → AreAscending nodes → IsNonDecreasingBy (λ (r : ResourceData). r.number) nodes
never_less nodes sorted i j d le within = elim (cases_lt i j) [
  | inl before ↦ let less : (get_or nodes i d).number < (get_or nodes j d).number = number_order nodes i j d sorted before within in omega arith
  | inr reached ↦ let same : i ≡ j = omega arith in (let is : (get_or nodes i d).number ≡ (get_or nodes j d).number = ap (λ (k : ℕ). (get_or nodes k d).number) same in omega arith)
]

after_from : (n : ℕ) (nodes : List ResourceData) (i : ℕ) → ((k : ℕ) (d : ResourceData) → k < i → nat_le (get_or nodes k d).number n ≡ true) → ((k : ℕ) (d : ResourceData) → i ≤ k → k < length nodes → nat_le (get_or nodes k d).number n ≡ false) → i ≤ length nodes → all_after n nodes ≡ drop i nodes
after_from n [] zero until behind within = refl
after_from n [] (suc i) until behind within = absurd (omega arith)
after_from n (s ∷ nodes) zero until behind within =
    let later : nat_lt n s.number ≡ true = lt-ltb n s.number (leb-false s.number n (behind 0 s (omega arith) (omega arith))) in
    rw later (ap (λ (ss : List ResourceData). s ∷ ss) (after_from n nodes zero (λ k d low. absurd (omega arith)) (λ k d low inside. behind (suc k) d (omega arith) (omega arith)) (omega arith)))
after_from n (s ∷ nodes) (suc i) until behind within =
    let low : s.number ≤ n = leb-true s.number n (until 0 s (omega arith)) in
    let earlier : nat_lt n s.number ≡ false = le-ltb n s.number low in
    rw earlier (after_from n nodes i (λ k d less. until (suc k) d (omega arith)) (λ k d least inside. behind (suc k) d (omega arith) (omega arith)) (omega arith))

pub after_place : (n : ℕ) (nodes : List ResourceData) (i : ℕ) → i ≤ length nodes → IsPartitionPoint (λ (r : ResourceData). nat_le r.number n ≡ true) (λ r. nat_le r.number n ≡ false) nodes i → all_after n nodes ≡ drop i nodes
after_place n nodes i within parted = after_from n nodes i (λ k d low. parted.0 k d (omega arith) low) (λ k d least inside. parted.1 k d least inside) within

-- the first that passes a test is the first of those that do
first_passes : (p : ResourceData → Bool) (nodes : List ResourceData) → find p nodes ≡ slice_get (filter p nodes) 0
first_passes p [] = refl
first_passes p (s ∷ nodes) = elim (cases_Bool (p s)) [
  | inl t ↦ rw t refl
  | inr f ↦ rw f (first_passes p nodes)
]

dropped_first : (nodes : List ResourceData) (i : ℕ) → slice_get (drop i nodes) 0 ≡ slice_get nodes i
dropped_first [] zero = refl
dropped_first [] (suc i) = refl
dropped_first (s ∷ nodes) zero = refl
dropped_first (s ∷ nodes) (suc i) = dropped_first nodes i

-- the first that comes after a number stands at that place
pub next_at : (n : ℕ) (nodes : List ResourceData) (i : ℕ) → all_after n nodes ≡ drop i nodes → slice_get nodes i ≡ next_after n nodes
next_at n nodes i after =
    sym (first_passes (comes_after n) nodes ∙ ap (λ (ss : List ResourceData). slice_get ss 0) after ∙ dropped_first nodes i)
