-- Where a number stands in a list whose numbers ascend.
use Rattle.std.specs.Prelude.{◌==◌, nat_lt}
use Rattle.std.proofs.Common.{◌≡◌, ℕ, zero, suc, ◌+◌, ◌-◌, ◌<◌, ◌≢◌, ◌||◌, List, [], ◌∷◌, length, map, get_or, set, Bool, true, false, Option, Some, None, Result, Ok, Err, inl, inr, refl, sym, ap, ◌∙◌, subst, arith}
use Rattle.std.proofs.lemmas.Bool.{eq-eqb, eqb-true, ne_eqb, cases_lt, ltb-true}
use Rattle.std.proofs.lemmas.Cmp.{nat_cmp_total}
use Rattle.std.proofs.lemmas.List.Sorted.{searchable_from_sorted}
use Rattle.std.proofs.lemmas.Map.Keys.{below_from_sorted}
use Rattle.std.proofs.lemmas.Option.{slice_get-get_or, same_Some}
use Rattle.std.specs.Bool.{OnTrue}
use Rattle.std.specs.List.{slice_get}
use Rattle.std.specs.List.Sorted.{IsNonDecreasingBy, IsBinarySearchResult, IsSearchInRange}
use Rattle.std.specs.Option.{option_map_or}
use Rattle.std.specs.Ordering.{nat_cmp, ordering_index}
use Rattle.std.specs.Result.{MatchResult}
use Rattle.resource_model.specs.Resource.{ResourceData, has_number}
use Rattle.tree_model.specs.Tree.{at, replaced, AreAscending, StandsAt}
use Rattle.tree_model.proofs.NumberLemmas.{below_not_above, equal_is, greater_is, less_is}

number_at : (nodes : List ResourceData) (i : ℕ) (d : ResourceData) → get_or (map (λ (r : ResourceData). r.number) nodes) i d.number ≡ (get_or nodes i d).number
number_at [] i d = refl
number_at (s ∷ nodes) zero d = refl
number_at (s ∷ nodes) (suc i) d = number_at nodes i d

numbers_len : (nodes : List ResourceData) → length (map (λ (r : ResourceData). r.number) nodes) ≡ length nodes
numbers_len [] = refl
numbers_len (s ∷ nodes) = ap suc (numbers_len nodes)

pub number_order : (nodes : List ResourceData) (i j : ℕ) (d : ResourceData) → AreAscending nodes → i < j → j < length nodes → (get_or nodes i d).number < (get_or nodes j d).number
number_order nodes i j d sorted before within =
    let less = below_from_sorted (map (λ (r : ResourceData). r.number) nodes) i j d.number sorted before (omega (arith, numbers_len nodes)) in
    rw (number_at nodes i d, number_at nodes j d) at less

found_at : (n : ℕ) (nodes : List ResourceData) (i : ℕ) (d : ResourceData) → i < length nodes → ((k : ℕ) → k < i → (get_or nodes k d).number ≢ n) → (get_or nodes i d).number ≡ n → at n nodes ≡ Some (get_or nodes i d)
found_at n [] i d within earlier is = absurd (omega arith)
found_at n (s ∷ nodes) zero d within earlier is = rw (eq-eqb s.number n is) refl
found_at n (s ∷ nodes) (suc i) d within earlier is = rw (ne_eqb s.number n (earlier 0 (omega arith))) (found_at n nodes i d (omega arith) (λ k low. earlier (suc k) (omega arith)) is)

written_at : (r : ResourceData) (nodes : List ResourceData) (i : ℕ) (d : ResourceData) → i < length nodes → ((k : ℕ) → k < i → (get_or nodes k d).number ≢ r.number) → (get_or nodes i d).number ≡ r.number → replaced r nodes ≡ set nodes i r
written_at r [] i d within earlier is = absurd (omega arith)
written_at r (s ∷ nodes) zero d within earlier is = rw (eq-eqb s.number r.number is) refl
written_at r (s ∷ nodes) (suc i) d within earlier is = rw (ne_eqb s.number r.number (earlier 0 (omega arith))) (ap (λ rest. s ∷ rest) (written_at r nodes i d (omega arith) (λ k low. earlier (suc k) (omega arith)) is))

none_at : (n : ℕ) (nodes : List ResourceData) → ((k : ℕ) (d : ResourceData) → k < length nodes → (get_or nodes k d).number ≢ n) → at n nodes ≡ None
none_at n [] none = refl
none_at n (s ∷ nodes) none = rw (ne_eqb s.number n (none 0 s (omega arith))) (none_at n nodes (λ k d within. none (suc k) d (omega arith)))

searchable : (nodes : List ResourceData) (n : ℕ) → AreAscending nodes → IsNonDecreasingBy (λ r. ordering_index (nat_cmp r.number n)) nodes
searchable nodes n sorted = searchable_from_sorted nat_cmp_total (λ (r : ResourceData). r.number) nodes n (λ k d low within. below_not_above _ _ (number_order nodes k (k + 1) d sorted (omega arith) (omega arith)))

-- what a search by halving found
pub searched : (n : ℕ) (nodes : List ResourceData) (r : Result ℕ ℕ) → AreAscending nodes → IsSearchInRange r (length nodes) → IsBinarySearchResult (λ s. nat_cmp s.number n) nodes r → MatchResult r (StandsAt n nodes) (λ _. at n nodes ≡ None)
searched n nodes (Ok i) sorted within found =
    let is : (d : ResourceData) → (get_or nodes i d).number ≡ n = λ d. equal_is _ _ (found d) in
    let earlier : (d : ResourceData) (k : ℕ) → k < i → (get_or nodes k d).number ≢ n = λ d k low e. (let less : (get_or nodes k d).number < (get_or nodes i d).number = number_order nodes k i d sorted low within in let here = is d in omega arith) in
    record {
      within = within;
      found = λ d. found_at n nodes i d within (earlier d) (is d);
      written = λ s same. written_at s nodes i s within (λ k low e. earlier s k low (e ∙ same)) (is s ∙ sym same);
    }
searched n nodes (Err i) sorted within found =
    let parted = found (searchable nodes n sorted) in
    none_at n nodes (λ k d inside e. elim (cases_lt k i) [
      | inl before ↦ let less : (get_or nodes k d).number < n = less_is _ _ (parted.0 k d (omega arith) before) in omega arith
      | inr after ↦ let more : n < (get_or nodes k d).number = greater_is _ _ (parted.1 k d after inside) in omega arith
    ])

inside : (nodes : List ResourceData) (i : ℕ) (r : ResourceData) → Some r ≡ slice_get nodes i → i < length nodes
inside [] i r got = cc
inside (s ∷ nodes) zero r got = omega arith
inside (s ∷ nodes) (suc i) r got = omega (arith, inside nodes i r got)

-- what has a number at a place is found by it
pub near_found : (nodes : List ResourceData) (i n : ℕ) (o : Option ResourceData) → AreAscending nodes → o ≡ slice_get nodes i → option_map_or (has_number n) o false ≡ true → o ≡ at n nodes
near_found nodes i n None sorted got is = cc
near_found nodes i n (Some r) sorted got is =
    let within : i < length nodes = inside nodes i r got in
    let here : r ≡ get_or nodes i r = same_Some r (get_or nodes i r) (got ∙ slice_get-get_or nodes i r within) in
    let number : (get_or nodes i r).number ≡ n = ap (λ (s : ResourceData). s.number) (sym here) ∙ eqb-true r.number n is in
    let found : at n nodes ≡ Some (get_or nodes i r) = found_at n nodes i r within (λ k low e. (let less : (get_or nodes k r).number < (get_or nodes i r).number = number_order nodes k i r sorted low within in omega arith)) number in
    ap (λ (s : ResourceData). Some s) here ∙ sym found

-- ---- where no number stands

behind : (nodes : List ResourceData) (i n : ℕ) (o : Option ResourceData) → o ≡ slice_get nodes i → option_map_or (λ (r : ResourceData). nat_lt r.number n) o false ≡ true → (i < length nodes) × ((d : ResourceData) → (get_or nodes i d).number < n)
behind nodes i n None got less = cc
behind nodes i n (Some r) got less =
    let within : i < length nodes = inside nodes i r got in (
      within,
      λ d.
          let here : r ≡ get_or nodes i d = same_Some r (get_or nodes i d) (got ∙ slice_get-get_or nodes i d within) in
          subst (λ (s : ResourceData). s.number < n) here (ltb-true r.number n less),
    )

ahead : (nodes : List ResourceData) (i n : ℕ) (o : Option ResourceData) → o ≡ slice_get nodes i → option_map_or (λ (r : ResourceData). nat_lt n r.number) o true ≡ true → i < length nodes → (d : ResourceData) → n < (get_or nodes i d).number
ahead nodes i n None got less within d = absurd (let there : None ≡ Some (get_or nodes i d) = got ∙ slice_get-get_or nodes i d within in cc)
ahead nodes i n (Some r) got less within d =
    let here : r ≡ get_or nodes i d = same_Some r (get_or nodes i d) (got ∙ slice_get-get_or nodes i d within) in
    subst (λ (s : ResourceData). n < s.number) here (ltb-true n r.number less)

-- a number that is above the last one before a place and below the next stands nowhere
pub gap_none : (n : ℕ) (nodes : List ResourceData) (i : ℕ) → AreAscending nodes → ((i == 0) || option_map_or (λ (r : ResourceData). nat_lt r.number n) (slice_get nodes (i - 1)) false) ≡ true → option_map_or (λ (r : ResourceData). nat_lt n r.number) (slice_get nodes i) true ≡ true → at n nodes ≡ None
gap_none n nodes i sorted last next =
    none_at n nodes (λ k d within e. elim (cases_lt k i) [
      | inl before ↦
          let some : (i == 0) ≡ false = ne_eqb i 0 (λ none. omega arith) in
          let low = behind nodes (i - 1) n (slice_get nodes (i - 1)) refl (rw some at last) in
          let top : (get_or nodes (i - 1) d).number < n = low.1 d in
          elim (cases_lt k (i - 1)) [
            | inl less ↦ (let more : (get_or nodes k d).number < (get_or nodes (i - 1) d).number = number_order nodes k (i - 1) d sorted less low.0 in omega arith)
            | inr reached ↦ (let is : k ≡ i - 1 = omega arith in let here : (get_or nodes (i - 1) d).number ≡ n = subst (λ (j : ℕ). (get_or nodes j d).number ≡ n) is e in omega arith)
          ]
      | inr after ↦
          let first : n < (get_or nodes i d).number = ahead nodes i n (slice_get nodes i) refl next (omega arith) d in
          elim (cases_lt i k) [
            | inl less ↦ (let more : (get_or nodes i d).number < (get_or nodes k d).number = number_order nodes i k d sorted less within in omega arith)
            | inr reached ↦ (let is : k ≡ i = omega arith in let here : (get_or nodes i d).number ≡ n = subst (λ (j : ℕ). (get_or nodes j d).number ≡ n) is e in omega arith)
          ]
    ])

-- where both sides of a place tell so, none has the number
pub gap_told : (b : Bool) (n : ℕ) (nodes : List ResourceData) (i : ℕ) → AreAscending nodes → ((i == 0) || option_map_or (λ (r : ResourceData). nat_lt r.number n) (slice_get nodes (i - 1)) false) ≡ true → b ≡ option_map_or (λ (r : ResourceData). nat_lt n r.number) (slice_get nodes i) true → OnTrue b (at n nodes ≡ None)
gap_told true n nodes i sorted last next = gap_none n nodes i sorted last (sym next)
gap_told false n nodes i sorted last next = tt
