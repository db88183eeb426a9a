-- Attributes in order, and what a change of one leaves.
use Rattle.std.proofs.Common.{add-one, set, Result, Ok, Err, ◌≡◌, ℕ, zero, suc, ◌+◌, ◌<◌, ◌≤◌, ◌≢◌, List, [], ◌∷◌, ◌++◌, length, get_or, take, drop, Bool, true, false, cond, Option, Some, None, Ordering, Less, Equal, Greater, is_eq, inl, inr, refl, sym, ap, ◌∙◌, subst, arith}
use Rattle.std.proofs.lemmas.Bool.{cases_lt, cases_Bool, false_from_ne_true}
use Rattle.std.proofs.lemmas.Cmp.{nat_list_cmp_total, on_total, tied_itself}
use Rattle.std.proofs.lemmas.List.{drop_all, get_or_default, map-append, set_split, take_all}
use Rattle.std.proofs.lemmas.List.Kept.{IsStrictlySortedBy-filter}
use Rattle.std.proofs.lemmas.List.Sorted.{searchable_from_sorted}
use Rattle.std.proofs.lemmas.Map.Keys.{Less-from_sorted, sorted_tail}
use Rattle.std.specs.Cmp.{IsTotalOrder}
use Rattle.std.specs.List.{AllByRecursion, filter, insert, remove}
use Rattle.std.specs.List.Sorted.{IsStrictlySortedBy, IsNonDecreasingBy, IsBinarySearchResult, IsSearchInRange}
use Rattle.std.specs.Map.{keys_of}
use Rattle.std.specs.Option.{option_or}
use Rattle.std.specs.Result.{MatchResult}
use Rattle.std.specs.Ordering.{ordering_index, ordering_reverse, is_lt}
use Rattle.m2m_names.proofs.AttributeLemmas.{same_attr, equal_texts, less_not_equal, greater_not_equal}
use Rattle.m2m_names.specs.Attributes.{attr_short}
use Rattle.m2m_names.specs.declared.attributes.Attr.{Attr}
use Rattle.m2m_value.specs.Data.{Data}
use Rattle.resource_model.specs.Attributes.{Row, attr_cmp, is_attr, AreInOrder, value_of, rows_before, rows_after, with_value, without_value, HoldsRow, LacksRow}
use Rattle.m2m_names.proofs.LookupLemmas.{option_or-None}
use Rattle.m2m_names.proofs.PlaceLemmas.{less as lt_less}

-- ---- the order of attributes

pub attr_total : IsTotalOrder attr_cmp
attr_total = on_total attr_short nat_list_cmp_total

-- attributes that compare equal are one
pub tied_attr : (a b : Attr) → attr_cmp a b ≡ Equal → a ≡ b
tied_attr a b e = same_attr a b (equal_texts (attr_short a) (attr_short b) e)

pub attr_itself : (a : Attr) → attr_cmp a a ≡ Equal
attr_itself a = tied_itself attr_total a

-- ---- a list of which the first n elements pass, and no other

pub filter_front : {X : Type 0} (p : X → Bool) (xs : List X) (n : ℕ) → ((k : ℕ) (d : X) → k < n → k < length xs → p (get_or xs k d) ≡ true) → ((k : ℕ) (d : X) → n ≤ k → k < length xs → p (get_or xs k d) ≡ false) → filter p xs ≡ take n xs
filter_front p [] zero passes fails = refl
filter_front p [] (suc n) passes fails = refl
filter_front p (x ∷ xs) zero passes fails = rw (fails 0 x (omega arith) (omega arith)) (filter_front p xs 0 (λ k d low within. absurd (omega arith)) (λ k d low within. fails (suc k) d (omega arith) (omega arith)) ∙ refl)
filter_front p (x ∷ xs) (suc n) passes fails = rw (passes 0 x (omega arith) (omega arith)) (ap (λ ys. x ∷ ys) (filter_front p xs n (λ k d low within. passes (suc k) d (omega arith) (omega arith)) (λ k d low within. fails (suc k) d (omega arith) (omega arith))))

pub filter_back : {X : Type 0} (p : X → Bool) (xs : List X) (n : ℕ) → ((k : ℕ) (d : X) → k < n → k < length xs → p (get_or xs k d) ≡ false) → ((k : ℕ) (d : X) → n ≤ k → k < length xs → p (get_or xs k d) ≡ true) → filter p xs ≡ drop n xs
filter_back p [] zero fails passes = refl
filter_back p [] (suc n) fails passes = refl
filter_back p (x ∷ xs) zero fails passes = rw (passes 0 x (omega arith) (omega arith)) (ap (λ ys. x ∷ ys) (filter_back p xs 0 (λ k d low within. absurd (omega arith)) (λ k d low within. passes (suc k) d (omega arith) (omega arith))))
filter_back p (x ∷ xs) (suc n) fails passes = rw (fails 0 x (omega arith) (omega arith)) (filter_back p xs n (λ k d low within. fails (suc k) d (omega arith) (omega arith)) (λ k d low within. passes (suc k) d (omega arith) (omega arith)))

-- ---- where an attribute stands

key_at : (rows : List Row) (i : ℕ) (d : Row) → get_or (keys_of rows) i d.0 ≡ (get_or rows i d).0
key_at [] i d = refl
key_at (e ∷ rows) zero d = refl
key_at (e ∷ rows) (suc i) d = key_at rows i d

keys_len : (rows : List Row) → length (keys_of rows) ≡ length rows
keys_len [] = refl
keys_len (e ∷ rows) = ap suc (keys_len rows)

pub row_order : (rows : List Row) (i j : ℕ) (d : Row) → AreInOrder rows → i < j → j < length rows → attr_cmp (get_or rows i d).0 (get_or rows j d).0 ≡ Less
row_order rows i j d sorted before within =
    let less = Less-from_sorted attr_cmp (keys_of rows) i j d.0 sorted before (omega (arith, keys_len rows)) in
    rw (key_at rows i d, key_at rows j d) at less

pub falls_back : (a b : Attr) → attr_cmp a b ≡ Less → is_lt (attr_cmp b a) ≡ false
falls_back a b less = ap is_lt (attr_total.antisymm b a ∙ ap ordering_reverse less)

rises_back : (a b : Attr) → attr_cmp a b ≡ Greater → is_lt (attr_cmp b a) ≡ true
rises_back a b greater = ap is_lt (attr_total.antisymm b a ∙ ap ordering_reverse greater)

is_equal : (o : Ordering) → is_eq o ≡ true → o ≡ Equal
is_equal Less t = cc
is_equal Equal t = refl
is_equal Greater t = cc

lookup_absent : (a : Attr) (rows : List Row) → ((k : ℕ) (d : Row) → k < length rows → attr_cmp (get_or rows k d).0 a ≢ Equal) → value_of a rows ≡ None
lookup_absent a [] none = refl
lookup_absent a (e ∷ rows) none =
    let apart : is_attr a e.0 ≡ false = false_from_ne_true _ (λ t. none 0 e (omega arith) (turned a e.0 t)) in
    rw apart (lookup_absent a rows (λ k d within. none (suc k) d (omega arith)))
  where
    turned : (a b : Attr) → is_attr a b ≡ true → attr_cmp b a ≡ Equal
    turned a b t = attr_total.antisymm b a ∙ ap ordering_reverse (is_equal _ t)

pub is_attr-same : (a b : Attr) → is_attr a b ≡ true → a ≡ b
is_attr-same a b t = tied_attr a b (is_equal _ t)

pub is_attr-itself : (a : Attr) → is_attr a a ≡ true
is_attr-itself a = ap is_eq (attr_itself a)

lookup_present : (a : Attr) (rows : List Row) (i : ℕ) (d : Row) → AreInOrder rows → i < length rows → (get_or rows i d).0 ≡ a → value_of a rows ≡ Some (get_or rows i d).1
lookup_present a [] i d sorted within e = absurd (omega arith)
lookup_present a (x ∷ rows) zero d sorted within e = rw (ap (λ b. is_attr a b) e ∙ is_attr-itself a) refl
lookup_present a (x ∷ rows) (suc i) d sorted within e =
    let less : attr_cmp x.0 (get_or rows i d).0 ≡ Less = row_order (x ∷ rows) 0 (suc i) d sorted (omega arith) within in
    let apart : is_attr a x.0 ≡ false = false_from_ne_true _ (λ t. less_not_equal _ (ap (attr_cmp x.0) (sym e) ∙ less) (ap (λ b. attr_cmp b a) (sym (is_attr-same a x.0 t)) ∙ attr_itself a)) in
    rw apart (lookup_present a rows i d (sorted_tail attr_cmp x.0 (keys_of rows) sorted) (omega arith) e)

pub holds_row : (a : Attr) (rows : List Row) (i : ℕ) → AreInOrder rows → i < length rows → ((d : Row) → attr_cmp (get_or rows i d).0 a ≡ Equal) → HoldsRow a rows i
holds_row a rows i sorted within equal =
    let is : (d : Row) → (get_or rows i d).0 ≡ a = λ d. tied_attr _ a (equal d) in
    let below : (k : ℕ) (d : Row) → k < i → attr_cmp (get_or rows k d).0 a ≡ Less = λ k d before. ap (attr_cmp (get_or rows k d).0) (sym (is d)) ∙ row_order rows k i d sorted before within in
    let above : (k : ℕ) (d : Row) → i < k → k < length rows → attr_cmp a (get_or rows k d).0 ≡ Less = λ k d after inside. ap (λ b. attr_cmp b (get_or rows k d).0) (sym (is d)) ∙ row_order rows i k d sorted after inside in
    record {
      within = within;
      before = filter_front (λ row. is_lt (attr_cmp row.0 a)) rows i (λ k d low inside. ap is_lt (below k d low)) (λ k d from inside. elim (cases_lt i k) [
        | inl after ↦ falls_back a (get_or rows k d).0 (above k d after inside)
        | inr reached ↦ let same : k ≡ i = omega arith in ap (λ j. is_lt (attr_cmp (get_or rows j d).0 a)) same ∙ ap is_lt (equal d)
      ]);
      after = filter_back (λ row. is_lt (attr_cmp a row.0)) rows (i + 1) (λ k d low inside. elim (cases_lt k i) [
        | inl before ↦ falls_back (get_or rows k d).0 a (below k d before)
        | inr reached ↦ let same : k ≡ i = omega arith in ap (λ j. is_lt (attr_cmp a (get_or rows j d).0)) same ∙ ap (λ b. is_lt (attr_cmp a b)) (is d) ∙ ap is_lt (attr_itself a)
      ]) (λ k d from inside. ap is_lt (above k d (omega arith) inside));
      value = λ d. lookup_present a rows i d sorted within (is d);
    }

pub lacks_row : (a : Attr) (rows : List Row) (i : ℕ) → i ≤ length rows → ((k : ℕ) (d : Row) → k < i → attr_cmp (get_or rows k d).0 a ≡ Less) → ((k : ℕ) (d : Row) → i ≤ k → k < length rows → attr_cmp (get_or rows k d).0 a ≡ Greater) → LacksRow a rows i
lacks_row a rows i within below above = record {
  within = within;
  before = filter_front (λ row. is_lt (attr_cmp row.0 a)) rows i (λ k d low inside. ap is_lt (below k d low)) (λ k d from inside. ap is_lt (above k d from inside));
  after = filter_back (λ row. is_lt (attr_cmp a row.0)) rows i (λ k d low inside. falls_back (get_or rows k d).0 a (below k d low)) (λ k d from inside. rises_back (get_or rows k d).0 a (above k d from inside));
  value = lookup_absent a rows (λ k d inside. elim (cases_lt k i) [
    | inl before ↦ less_not_equal _ (below k d before)
    | inr after ↦ greater_not_equal _ (above k d after inside)
  ]);
}

-- an attribute that comes behind that of the last row
pub behind_last : (a : Attr) (rows : List Row) (i : ℕ) (e : Row) → AreInOrder rows → length rows ≡ i + 1 → e ≡ get_or rows i e → is_lt (attr_cmp e.0 a) ≡ true → LacksRow a rows (length rows)
behind_last a rows i e sorted last is less =
    let end : (d : Row) → attr_cmp (get_or rows i d).0 a ≡ Less = λ d. ap (λ (row : Row). attr_cmp row.0 a) (get_or_default rows i d e (omega (arith, last)) ∙ sym is) ∙ lt_less _ less in
    lacks_row a rows (length rows) (omega arith) (λ k d low. elim (cases_lt k i) [
      | inl before ↦ attr_total.trans _ _ a (row_order rows k i d sorted before (omega (arith, last))) (end d)
      | inr reached ↦ let same : k ≡ i = omega (arith, last, low, reached) in ap (λ j. attr_cmp (get_or rows j d).0 a) same ∙ end d
    ]) (λ k d from inside. absurd (omega (arith, from, inside)))

pub no_rows_lack : (a : Attr) (rows : List Row) → length rows ≡ 0 → LacksRow a rows (length rows)
no_rows_lack a rows none = lacks_row a rows (length rows) (omega arith) (λ k d low. absurd (omega (arith, none, low))) (λ k d from inside. absurd (omega (arith, none, inside)))

-- what a search by halving asks
pub searchable : (rows : List Row) (a : Attr) → AreInOrder rows → IsNonDecreasingBy (λ row. ordering_index (attr_cmp row.0 a)) rows
searchable rows a sorted = searchable_from_sorted attr_total (λ row. row.0) rows a (λ k d low within. falls_back (get_or rows k d).0 (get_or rows (k + 1) d).0 (row_order rows k (k + 1) d sorted (omega arith) (omega arith)))

-- ---- order is kept

keys_of-filter : (p : Attr → Bool) (rows : List Row) → keys_of (filter (λ row. p row.0) rows) ≡ filter p (keys_of rows)
keys_of-filter p [] = refl
keys_of-filter p (x ∷ rows) = elim (cases_Bool (p x.0)) [
  | inl t ↦ rw t (ap (λ ks. x.0 ∷ ks) (keys_of-filter p rows))
  | inr f ↦ rw f (keys_of-filter p rows)
]

all_filtered : (p : Attr → Bool) (P : Attr → Type 0) → ((b : Attr) → p b ≡ true → P b) → (ks : List Attr) → AllByRecursion P (filter p ks)
all_filtered p P holds [] = tt
all_filtered p P holds (k ∷ ks) = elim (cases_Bool (p k)) [
  | inl t ↦ rw t (holds k t, all_filtered p P holds ks)
  | inr f ↦ rw f (all_filtered p P holds ks)
]

all_joined : (P : Attr → Type 0) (xs ys : List Attr) → AllByRecursion P xs → AllByRecursion P ys → AllByRecursion P (xs ++ ys)
all_joined P [] ys hx hy = hy
all_joined P (x ∷ xs) ys hx hy = (hx.0, all_joined P xs ys hx.1 hy)

all_beyond : (x a : Attr) (ys : List Attr) → attr_cmp x a ≡ Less → AllByRecursion (λ y. attr_cmp a y ≡ Less) ys → AllByRecursion (λ y. attr_cmp x y ≡ Less) ys
all_beyond x a [] less h = tt
all_beyond x a (y ∷ ys) less h = (attr_total.trans x a y less h.0, all_beyond x a ys less h.1)

-- what stands before an attribute, and what stands after it
sorted_apart : (a : Attr) (xs ys : List Attr) → IsStrictlySortedBy attr_cmp xs → IsStrictlySortedBy attr_cmp ys → AllByRecursion (λ x. attr_cmp x a ≡ Less) xs → AllByRecursion (λ y. attr_cmp a y ≡ Less) ys → IsStrictlySortedBy attr_cmp (xs ++ ys)
unfolding IsStrictlySortedBy
sorted_apart a [] ys sx sy below above = sy
sorted_apart a (x ∷ xs) ys sx sy below above = (all_joined (λ y. attr_cmp x y ≡ Less) xs ys sx.0 (all_beyond x a ys below.0 above), sorted_apart a xs ys sx.1 sy below.1 above)

sorted_with : (a : Attr) (xs ys : List Attr) → IsStrictlySortedBy attr_cmp xs → IsStrictlySortedBy attr_cmp ys → AllByRecursion (λ x. attr_cmp x a ≡ Less) xs → AllByRecursion (λ y. attr_cmp a y ≡ Less) ys → IsStrictlySortedBy attr_cmp (xs ++ a ∷ ys)
unfolding IsStrictlySortedBy
sorted_with a [] ys sx sy below above = (above, sy)
sorted_with a (x ∷ xs) ys sx sy below above = (all_joined (λ y. attr_cmp x y ≡ Less) xs (a ∷ ys) sx.0 (below.0, all_beyond x a ys below.0 above), sorted_with a xs ys sx.1 sy below.1 above)

pub in_order-with_value : (a : Attr) (d : Data) (rows : List Row) → AreInOrder rows → AreInOrder (with_value a d rows)
in_order-with_value a d rows sorted =
    let p : Attr → Bool = λ b. is_lt (attr_cmp b a) in
    let q : Attr → Bool = λ b. is_lt (attr_cmp a b) in
    let keys : keys_of (with_value a d rows) ≡ filter p (keys_of rows) ++ a ∷ filter q (keys_of rows) =
    map-append (λ (row : Row). row.0) (rows_before a rows) ((a, d) ∷ rows_after a rows)
    ∙ ap (λ ks. ks ++ a ∷ keys_of (rows_after a rows)) (keys_of-filter p rows)
    ∙ ap (λ ks. filter p (keys_of rows) ++ a ∷ ks) (keys_of-filter q rows) in
    subst (IsStrictlySortedBy attr_cmp) (sym keys) (sorted_with a _ _ (IsStrictlySortedBy-filter attr_cmp p (keys_of rows) sorted) (IsStrictlySortedBy-filter attr_cmp q (keys_of rows) sorted) (all_filtered p _ (λ b. lt_less _) (keys_of rows)) (all_filtered q _ (λ b. lt_less _) (keys_of rows)))

pub in_order-without_value : (a : Attr) (rows : List Row) → AreInOrder rows → AreInOrder (without_value a rows)
in_order-without_value a rows sorted =
    let p : Attr → Bool = λ b. is_lt (attr_cmp b a) in
    let q : Attr → Bool = λ b. is_lt (attr_cmp a b) in
    let keys : keys_of (without_value a rows) ≡ filter p (keys_of rows) ++ filter q (keys_of rows) =
    map-append (λ (row : Row). row.0) (rows_before a rows) (rows_after a rows)
    ∙ ap (λ ks. ks ++ keys_of (rows_after a rows)) (keys_of-filter p rows)
    ∙ ap (λ ks. filter p (keys_of rows) ++ ks) (keys_of-filter q rows) in
    subst (IsStrictlySortedBy attr_cmp) (sym keys) (sorted_apart a _ _ (IsStrictlySortedBy-filter attr_cmp p (keys_of rows) sorted) (IsStrictlySortedBy-filter attr_cmp q (keys_of rows) sorted) (all_filtered p _ (λ b. lt_less _) (keys_of rows)) (all_filtered q _ (λ b. lt_less _) (keys_of rows)))

-- ---- what a look-up finds after a change

value-append : (b : Attr) (xs ys : List Row) → value_of b (xs ++ ys) ≡ option_or (value_of b xs) (value_of b ys)
value-append b [] ys = refl
value-append b (x ∷ xs) ys = elim (cases_Bool (is_attr b x.0)) [
  | inl t ↦ rw t refl
  | inr f ↦ rw f (value-append b xs ys)
]

filter_here : (b : Attr) (p : Attr → Bool) (x : Row) (rows : List Row) → is_attr b x.0 ≡ true → value_of b (filter (λ row. p row.0) rows) ≡ cond (p b) (value_of b rows) None → value_of b (filter (λ row. p row.0) (x ∷ rows)) ≡ cond (p b) (value_of b (x ∷ rows)) None
filter_here b p x rows t later = elim (cases_Bool (p x.0)) [
  | inl s ↦ rw (s, t, ap p (is_attr-same b x.0 t) ∙ s) refl
  | inr g ↦
      let none : p b ≡ false = ap p (is_attr-same b x.0 t) ∙ g in
      rw (g, none) (later ∙ rw none refl)
]

value-filter : (b : Attr) (p : Attr → Bool) (rows : List Row) → value_of b (filter (λ row. p row.0) rows) ≡ cond (p b) (value_of b rows) None
value-filter b p [] = elim (cases_Bool (p b)) [
  | inl t ↦ rw t refl
  | inr f ↦ rw f refl
]
value-filter b p (x ∷ rows) = elim (cases_Bool (is_attr b x.0)) [
  | inl t ↦ filter_here b p x rows t (value-filter b p rows)
  | inr f ↦ elim (cases_Bool (p x.0)) [
    | inl s ↦ rw (s, f) (value-filter b p rows)
    | inr g ↦ rw (g, f) (value-filter b p rows)
  ]
]

-- what a changed attribute has
pub value-with_value_same : (a : Attr) (d : Data) (rows : List Row) → value_of a (with_value a d rows) ≡ Some d
value-with_value_same a d rows =
    let none : value_of a (rows_before a rows) ≡ None = value-filter a (λ b. is_lt (attr_cmp b a)) rows ∙ rw (attr_itself a) refl in
    value-append a (rows_before a rows) ((a, d) ∷ rows_after a rows) ∙ rw (none, is_attr-itself a) refl

option_choice : (o : Ordering) (v : Option Data) → o ≢ Equal → option_or (cond (is_lt o) v None) (cond (is_lt (ordering_reverse o)) v None) ≡ v
option_choice Less v apart = option_or-None v
option_choice Equal v apart = absurd (apart refl)
option_choice Greater v apart = refl

apart_beside : (a b : Attr) (rows : List Row) → b ≢ a → option_or (value_of b (rows_before a rows)) (value_of b (rows_after a rows)) ≡ value_of b rows
apart_beside a b rows apart =
    rw (value-filter b (λ c. is_lt (attr_cmp c a)) rows, value-filter b (λ c. is_lt (attr_cmp a c)) rows, attr_total.antisymm a b)
    (option_choice (attr_cmp b a) (value_of b rows) (λ e. apart (tied_attr b a e)))

-- what every other attribute has
pub value-with_value_other : (a b : Attr) (d : Data) (rows : List Row) → b ≢ a → value_of b (with_value a d rows) ≡ value_of b rows
value-with_value_other a b d rows apart =
    value-append b (rows_before a rows) ((a, d) ∷ rows_after a rows)
    ∙ rw (false_from_ne_true (is_attr b a) (λ t. apart (is_attr-same b a t))) (apart_beside a b rows apart)

pub value-without_value_other : (a b : Attr) (rows : List Row) → b ≢ a → value_of b (without_value a rows) ≡ value_of b rows
value-without_value_other a b rows apart =
    value-append b (rows_before a rows) (rows_after a rows) ∙ apart_beside a b rows apart

-- what a cleared attribute has
pub value-without_value_same : (a : Attr) (rows : List Row) → value_of a (without_value a rows) ≡ None
value-without_value_same a rows =
    value-append a (rows_before a rows) (rows_after a rows)
    ∙ rw (value-filter a (λ c. is_lt (attr_cmp c a)) rows, value-filter a (λ c. is_lt (attr_cmp a c)) rows, attr_itself a) refl

-- what a search by halving found
pub searched : (a : Attr) (rows : List Row) (r : Result ℕ ℕ) → AreInOrder rows → IsSearchInRange r (length rows) → IsBinarySearchResult (λ row. attr_cmp row.0 a) rows r → MatchResult r (HoldsRow a rows) (LacksRow a rows)
searched a rows (Ok i) sorted within found = holds_row a rows i sorted within found
searched a rows (Err i) sorted within found =
    let parted = found (searchable rows a sorted) in
    lacks_row a rows i within (λ k d low. parted.0 k d (omega arith) low) (λ k d from inside. parted.1 k d from inside)

-- a row that is written over the attribute's, one that is put in, and the row taken out
pub set-HoldsRow : (a : Attr) (d : Data) (rows : List Row) (i : ℕ) → HoldsRow a rows i → set rows i (a, d) ≡ with_value a d rows
set-HoldsRow a d rows i h = set_split rows i (a, d) h.within ∙ rw (h.before, h.after, add-one) refl

-- behind the last row
pub insert_last : (rows : List Row) (row : Row) (i : ℕ) → i ≤ length rows → length rows ≤ i → rows ++ row ∷ [] ≡ insert rows i row
insert_last rows row i within past =
    ap (λ (rs : List Row). rs ++ row ∷ []) (sym (take_all i rows past)) ∙ ap (λ (rs : List Row). take i rows ++ row ∷ rs) (sym (drop_all i rows past))

pub insert-LacksRow : (a : Attr) (d : Data) (rows : List Row) (i : ℕ) → LacksRow a rows i → insert rows i (a, d) ≡ with_value a d rows
insert-LacksRow a d rows i h = rw (h.before, h.after) refl

pub remove-HoldsRow : (a : Attr) (rows : List Row) (i : ℕ) → HoldsRow a rows i → remove rows i ≡ without_value a rows
remove-HoldsRow a rows i h = rw (h.before, h.after, add-one) refl

pub no_rows : AreInOrder []
unfolding IsStrictlySortedBy
no_rows = tt
