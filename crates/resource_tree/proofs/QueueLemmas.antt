-- Numbers that ascend.
use Rattle.std.specs.Prelude.{nat_lt}
use Rattle.std.proofs.Common.{◌≡◌, ◌≢◌, ◌==◌, ℕ, zero, suc, ◌<◌, ◌≤◌, List, [], ◌∷◌, ◌++◌, length, take, get_or, Bool, true, false, not, Some, Err, Less, Equal, cond, inl, inr, refl, sym, ap, ◌∙◌, subst, arith}
use Rattle.std.proofs.lemmas.Bool.{cases_lt, and_parts, eq-eqb, ne_eqb}
use Rattle.std.proofs.lemmas.List.{append-nil, drop_all}
use Rattle.std.proofs.lemmas.List.Kept.{IsStrictlySortedBy-filter}
use Rattle.std.proofs.lemmas.Map.Keys.{below_from_sorted}
use Rattle.std.proofs.lemmas.Option.{get_or_from_slice_get, slice_get-get_or, slice_get_within}
use Rattle.std.specs.List.{AllByRecursion, list_all, remove, slice_get}
use Rattle.std.specs.List.Sorted.{IsBinarySearchResult, IsStrictlySortedBy}
use Rattle.std.specs.Ordering.{nat_cmp}
use Rattle.tree_model.specs.Tree.{DoAscend}
use Rattle.tree_model.proofs.NumberLemmas.{equal_is, greater_is, less_is, searchable}
use Rattle.resource_tree.specs.Queue.{without_number}

pub none_ascend : (numbers : List ℕ) → numbers ≡ [] → DoAscend numbers
unfolding IsStrictlySortedBy
none_ascend [] none = tt
none_ascend (n ∷ numbers) none = cc

pub one_ascends : (n : ℕ) → DoAscend (n ∷ [])
unfolding IsStrictlySortedBy
one_ascends n = (tt, tt)

-- ---- one more

all_less : (n : ℕ) (numbers : List ℕ) → list_all (λ m. nat_lt m n) numbers ≡ true → AllByRecursion (λ m. nat_cmp m n ≡ Less) numbers
all_less n [] below = tt
all_less n (m ∷ numbers) below =
    let parts = and_parts (nat_lt m n) (list_all (λ k. nat_lt k n) numbers) below in
    let less : nat_lt m n ≡ true = parts.0 in
    (rw less refl, all_less n numbers parts.1)

all_pushed : (m n : ℕ) (ks : List ℕ) → AllByRecursion (λ k. nat_cmp m k ≡ Less) ks → nat_cmp m n ≡ Less → AllByRecursion (λ k. nat_cmp m k ≡ Less) (ks ++ n ∷ [])
all_pushed m n [] all last = (last, tt)
all_pushed m n (k ∷ ks) all last = (all.0, all_pushed m n ks all.1 last)

ascend_push : (ms : List ℕ) (n : ℕ) → DoAscend ms → AllByRecursion (λ m. nat_cmp m n ≡ Less) ms → DoAscend (ms ++ n ∷ [])
unfolding IsStrictlySortedBy
ascend_push [] n sorted below = (tt, tt)
ascend_push (m ∷ ms) n sorted below = (all_pushed m n ms sorted.0 below.0, ascend_push ms n sorted.1 below.1)

pub pushed : (numbers now : List ℕ) (n : ℕ) (b : Bool) → DoAscend numbers → list_all (λ m. nat_lt m n) numbers ≡ true → now ≡ cond b (numbers ++ n ∷ []) numbers → DoAscend now
pushed numbers now n true sorted below is = subst DoAscend (sym is) (ascend_push numbers n sorted (all_less n numbers below))
pushed numbers now n false sorted below is = subst DoAscend (sym is) sorted

-- ---- one less

all_others : (n : ℕ) (numbers : List ℕ) → ((k d : ℕ) → k < length numbers → get_or numbers k d ≢ n) → without_number n numbers ≡ numbers
all_others n [] none = refl
all_others n (m ∷ numbers) none =
    let apart : (m == n) ≡ false = ne_eqb m n (λ e. none 0 m (omega arith) e) in
    rw apart (ap (λ (ms : List ℕ). m ∷ ms) (all_others n numbers (λ k d within. none (suc k) d (omega arith))))

taken_out : (n : ℕ) (numbers : List ℕ) (i : ℕ) → i < length numbers → ((k d : ℕ) → k < length numbers → k ≢ i → get_or numbers k d ≢ n) → ((d : ℕ) → get_or numbers i d ≡ n) → remove numbers i ≡ without_number n numbers
taken_out n [] i within others is = absurd (omega arith)
taken_out n (m ∷ numbers) zero within others is =
    let here : (m == n) ≡ true = eq-eqb m n (is m) in
    rw here (sym (all_others n numbers (λ k d inside. others (suc k) d (omega arith) (λ e. omega arith))))
taken_out n (m ∷ numbers) (suc i) within others is =
    let apart : (m == n) ≡ false = ne_eqb m n (λ e. others 0 m (omega arith) (λ z. omega arith) e) in
    rw apart (ap (λ (ms : List ℕ). m ∷ ms) (taken_out n numbers i (omega arith) (λ k d inside other. others (suc k) d (omega arith) (λ e. other (omega arith))) is))

apart_from : (numbers : List ℕ) (n i k d : ℕ) → DoAscend numbers → i < length numbers → get_or numbers i d ≡ n → k < length numbers → k ≢ i → get_or numbers k d ≢ n
apart_from numbers n i k d sorted within is inside other e = elim (cases_lt k i) [
  | inl before ↦ let less : get_or numbers k d < get_or numbers i d = below_from_sorted numbers k i d sorted before within in omega arith
  | inr reached ↦ elim (cases_lt i k) [
    | inl after ↦ let more : get_or numbers i d < get_or numbers k d = below_from_sorted numbers i k d sorted after inside in omega arith
    | inr back ↦ other (omega arith)
  ]
]

-- where it stands, as a place of the list
pub place_found : (n : ℕ) (numbers : List ℕ) (i : ℕ) → i < length numbers → ((d : ℕ) → nat_cmp (get_or numbers i d) n ≡ Equal) → slice_get numbers i ≡ Some n
place_found n numbers i within found = slice_get-get_or numbers i n within ∙ ap Some (equal_is _ _ (found n))

-- what stands at a place is taken out
pub placed_out : (n : ℕ) (numbers : List ℕ) (i : ℕ) → DoAscend numbers → slice_get numbers i ≡ Some n → remove numbers i ≡ without_number n numbers
placed_out n numbers i sorted there =
    let within : i < length numbers = slice_get_within numbers i n there in
    let is : (d : ℕ) → get_or numbers i d ≡ n = λ d. get_or_from_slice_get numbers i n d there in
    taken_out n numbers i within (λ k d inside other. apart_from numbers n i k d sorted within (is d) inside other) is

-- the last is taken out
pub last_out : (n : ℕ) (numbers : List ℕ) (i k : ℕ) → DoAscend numbers → slice_get numbers i ≡ Some n → (k ≡ i) × (length numbers ≤ suc i) → take k numbers ≡ without_number n numbers
last_out n numbers i k sorted there ends =
    ap (λ j. take j numbers) ends.0
    ∙ sym (append-nil (take i numbers))
    ∙ ap (λ (ns : List ℕ). take i numbers ++ ns) (sym (drop_all (suc i) numbers ends.1))
    ∙ placed_out n numbers i sorted there

-- where a search found none, nothing is taken out
pub not_found : (n : ℕ) (ks : List ℕ) (i : ℕ) → DoAscend ks → IsBinarySearchResult (λ k. nat_cmp k n) ks (Err i) → ks ≡ without_number n ks
not_found n ks i sorted found =
    let parted = found (searchable ks n sorted) in
    sym (all_others n ks (λ k d inside e. elim (cases_lt k i) [
      | inl before ↦ let less : get_or ks k d < n = less_is _ _ (parted.0 k d (omega arith) before) in omega arith
      | inr after ↦ let more : n < get_or ks k d = greater_is _ _ (parted.1 k d after inside) in omega arith
    ]))

pub left_ascend : (n : ℕ) (numbers : List ℕ) → DoAscend numbers → DoAscend (without_number n numbers)
left_ascend n numbers sorted = IsStrictlySortedBy-filter nat_cmp (λ m. not (m == n)) numbers sorted
