-- Whether a number is one of several that ascend.
use Rattle.std.specs.Prelude.{nat_eq}
use Rattle.std.proofs.Common.{◌≡◌, ◌≢◌, ℕ, suc, ◌+◌, ◌<◌, List, [], ◌∷◌, length, get_or, false, Result, Ok, Err, inl, inr, refl, sym, arith}
use Rattle.std.proofs.lemmas.Bool.{cases_lt, eq-eqb, ne_eqb}
use Rattle.std.proofs.lemmas.Bool.Decides.{nat_tests}
use Rattle.std.proofs.lemmas.Cmp.{nat_cmp_total}
use Rattle.std.proofs.lemmas.List.Folds.{list_any_at}
use Rattle.std.proofs.lemmas.List.Sorted.{searchable_from_sorted}
use Rattle.std.proofs.lemmas.Map.Keys.{below_from_sorted}
use Rattle.std.specs.List.{list_any}
use Rattle.std.specs.List.Sorted.{IsBinarySearchResult, IsNonDecreasingBy, IsSearchInRange}
use Rattle.std.specs.Ordering.{nat_cmp, ordering_index, is_lt}
use Rattle.std.specs.Result.{is_ok}
use Rattle.std.specs.declared.cmp.Ordering.TheVariants.{Less, Equal, Greater}
use Rattle.tree_model.specs.Tree.{DoAscend}

pub equal_is : (m n : ℕ) → nat_cmp m n ≡ Equal → m ≡ n
equal_is m n e = grind (arith, nat_tests)

pub less_is : (m n : ℕ) → nat_cmp m n ≡ Less → m < n
less_is m n e = grind (arith, nat_tests)

pub greater_is : (m n : ℕ) → nat_cmp m n ≡ Greater → n < m
greater_is m n e = grind (arith, nat_tests)

pub below_not_above : (m n : ℕ) → m < n → is_lt (nat_cmp n m) ≡ false
below_not_above m n less = grind (arith, nat_tests)

none_is : (n : ℕ) (ks : List ℕ) → ((k d : ℕ) → k < length ks → get_or ks k d ≢ n) → list_any (nat_eq n) ks ≡ false
none_is n [] none = refl
none_is n (m ∷ ks) none =
    let apart : nat_eq n m ≡ false = ne_eqb n m (λ e. none 0 m (omega arith) (sym e)) in
    rw apart (none_is n ks (λ k d within. none (suc k) d (omega arith)))

pub searchable : (ks : List ℕ) (n : ℕ) → DoAscend ks → IsNonDecreasingBy (λ k. ordering_index (nat_cmp k n)) ks
searchable ks n sorted = searchable_from_sorted nat_cmp_total (λ (k : ℕ). k) ks n (λ k d low within. below_not_above _ _ (below_from_sorted ks k (k + 1) d sorted (omega arith) (omega arith)))

-- what a search by halving tells of them
pub among : (n : ℕ) (ks : List ℕ) (r : Result ℕ ℕ) → DoAscend ks → IsSearchInRange r (length ks) → IsBinarySearchResult (λ k. nat_cmp k n) ks r → is_ok r ≡ list_any (nat_eq n) ks
among n ks (Ok i) sorted within found = sym (list_any_at (nat_eq n) ks i n within (eq-eqb n (get_or ks i n) (sym (equal_is _ _ (found n)))))
among n ks (Err i) sorted within found =
    let parted = found (searchable ks n sorted) in
    sym (none_is n ks (λ k d inside e. elim (cases_lt k i) [
      | inl before ↦ let less : get_or ks k d < n = less_is _ _ (parted.0 k d (omega arith) before) in omega arith
      | inr after ↦ let more : n < get_or ks k d = greater_is _ _ (parted.1 k d after inside) in omega arith
    ]))
