-- A key among keys in order, found by halving.
use Rattle.std.proofs.Common.{◌≡◌, ℕ, zero, suc, ◌+◌, ◌<◌, ◌≢◌, List, [], ◌∷◌, length, get_or, set, true, false, cond, bytes_eq, Some, None, Result, Ok, Err, IfOk, IfErr, IsUtf8, Ordering, Less, Equal, Greater, nat_cmp, inl, inr, refl, sym, ap, ◌∙◌, arith}
use Rattle.std.proofs.lemmas.Bool.{cases_lt, false_from_ne_true}
use Rattle.std.proofs.lemmas.Cmp.{nat_list_cmp_total, tied_itself}
use Rattle.std.proofs.lemmas.List.Sorted.{searchable_from_sorted}
use Rattle.std.proofs.lemmas.Map.Keys.{Less-from_sorted}
use Rattle.std.proofs.lemmas.Slice.Eq.{bytes_eq-Decides}
use Rattle.std.specs.Cmp.Lexicographic.{slice_cmp}
use Rattle.std.specs.BTreeMap.{insert_entry}
use Rattle.std.specs.List.{AllByRecursion, insert}
use Rattle.std.specs.List.Sorted.{IsStrictlySortedBy, IsNonDecreasingBy, IsSearchInRange, IsBinarySearchResult}
use Rattle.std.specs.Map.{keys_of}
use Rattle.std.specs.Ordering.{ordering_index, ordering_reverse, match_ordering, is_lt}
use Rattle.m2m_value.specs.Data.{Data, Entry}
use Rattle.m2m_value.specs.Node.{AreSorted, HaveTextKeys}
use Rattle.m2m_value.specs.View.{member_of, IsPlaceOf, IsGapFor}
use Rattle.m2m_names.proofs.AttributeLemmas.{equal_texts, less_not_equal, greater_not_equal}

abbrev pub compared : List ℕ → List ℕ → Ordering
compared = slice_cmp nat_cmp

-- keys that don't compare equal differ
apart : (x key : List ℕ) → compared x key ≢ Equal → bytes_eq key x ≡ false
apart x key ne = false_from_ne_true _ (λ e. ne (ap (compared x) ((bytes_eq-Decides key x).0 e) ∙ tied_itself nat_list_cmp_total x))

pub member_of-absent : (key : List ℕ) (es : List Entry) → ((i : ℕ) (d : Entry) → i < length es → compared (get_or es i d).0 key ≢ Equal) → member_of key es ≡ None
member_of-absent key [] none = refl
member_of-absent key (e ∷ es) none = rw (apart e.0 key (none 0 e (omega arith))) (member_of-absent key es (λ i d within. none (suc i) d (omega arith)))

below_at : (x : List ℕ) (es : List Entry) (i : ℕ) (d : Entry) → AllByRecursion (λ y. compared x y ≡ Less) (keys_of es) → i < length es → compared x (get_or es i d).0 ≡ Less
below_at x [] i d h within = absurd (omega arith)
below_at x (e ∷ es) zero d h within = h.0
below_at x (e ∷ es) (suc i) d h within = below_at x es i d h.1 (omega arith)

pub bytes_eq_itself : (key : List ℕ) → bytes_eq key key ≡ true
bytes_eq_itself key = (bytes_eq-Decides key key).1 refl

pub member_of-present : (key : List ℕ) (es : List Entry) (i : ℕ) (d : Entry) → AreSorted es → i < length es → compared (get_or es i d).0 key ≡ Equal → member_of key es ≡ Some (get_or es i d).1
unfolding IsStrictlySortedBy
member_of-present key [] i d sorted within e = absurd (omega arith)
member_of-present key (x ∷ es) zero d sorted within e = rw ((bytes_eq-Decides key x.0).1 (sym (equal_texts x.0 key e))) refl
member_of-present key (x ∷ es) (suc i) d sorted within e =
    let here : i < length es = omega arith in
    let less : compared x.0 key ≡ Less = ap (compared x.0) (sym (equal_texts (get_or es i d).0 key e)) ∙ below_at x.0 es i d sorted.0 here in
    rw (apart x.0 key (less_not_equal _ less)) (member_of-present key es i d sorted.1 here e)

key_at : (es : List Entry) (i : ℕ) (d : Entry) → get_or (keys_of es) i d.0 ≡ (get_or es i d).0
key_at [] i d = refl
key_at (e ∷ es) zero d = refl
key_at (e ∷ es) (suc i) d = key_at es i d

keys_len : (es : List Entry) → length (keys_of es) ≡ length es
keys_len [] = refl
keys_len (e ∷ es) = ap suc (keys_len es)

falls_back : (x y : List ℕ) → compared x y ≡ Less → is_lt (compared y x) ≡ false
falls_back x y less = ap is_lt (nat_list_cmp_total.antisymm y x ∙ ap ordering_reverse less)

-- what a search by halving asks
pub searchable : (es : List Entry) (key : List ℕ) → AreSorted es → IsNonDecreasingBy (λ e. ordering_index (compared e.0 key)) es
searchable es key sorted = searchable_from_sorted nat_list_cmp_total (λ e. e.0) es key (λ k d low within.
    let less = Less-from_sorted compared (keys_of es) k (k + 1) d.0 sorted (omega arith) (omega (arith, keys_len es)) in
    falls_back (get_or es k d).0 (get_or es (k + 1) d).0 (rw (key_at es k d, key_at es (k + 1) d) at less))

-- between the keys below and the keys above there is none
pub member_of-gap : (key : List ℕ) (es : List Entry) (place : ℕ) → IsGapFor key es place → member_of key es ≡ None
member_of-gap key es place gap = member_of-absent key es (λ k d within. elim (cases_lt k place) [
  | inl before ↦ less_not_equal _ (gap.below k d before)
  | inr after ↦ greater_not_equal _ (gap.above k d after within)
])

turned : (x y : List ℕ) (o : Ordering) → compared y x ≡ o → compared x y ≡ ordering_reverse o
turned x y o e = nat_list_cmp_total.antisymm x y ∙ ap ordering_reverse e

tail_gap : (key : List ℕ) (e : Entry) (es : List Entry) (place : ℕ) → IsGapFor key (e ∷ es) (suc place) → IsGapFor key es place
tail_gap key e es place gap = record {
  within = omega (arith, gap.within);
  below = λ k d lt. gap.below (suc k) d (omega arith);
  above = λ k d le lt. gap.above (suc k) d (omega arith) (omega arith);
}

-- what is put in a gap goes between its neighbours
pub put-gap : (es : List Entry) (key : List ℕ) (v : Data) (place : ℕ) → IsGapFor key es place → insert_entry compared es key v ≡ insert es place (key, v)
put-gap [] key v zero gap = refl
put-gap [] key v (suc place) gap = absurd (omega (arith, gap.within))
put-gap (e ∷ es) key v zero gap = rw (turned key e.0 Greater (gap.above 0 e (omega arith) (omega arith))) refl
put-gap (e ∷ es) key v (suc place) gap = rw (turned key e.0 Less (gap.below 0 e (omega arith))) (ap (λ l. e ∷ l) (put-gap es key v place (tail_gap key e es place gap)))

-- what is put at a key that is there goes in its place
pub put-place : (es : List Entry) (key : List ℕ) (v : Data) (place : ℕ) (d : Entry) → AreSorted es → IsPlaceOf key es place → insert_entry compared es key v ≡ set es place ((get_or es place d).0, v)
unfolding IsStrictlySortedBy
put-place [] key v place d sorted at = absurd (omega (arith, at.0))
put-place (e ∷ es) key v zero d sorted at = rw (turned key e.0 Equal (at.1 e)) refl
put-place (e ∷ es) key v (suc place) d sorted at =
    let here : place < length es = omega (arith, at.0) in
    let less : compared e.0 key ≡ Less = ap (compared e.0) (sym (equal_texts (get_or es place d).0 key (at.1 d))) ∙ below_at e.0 es place d sorted.0 here in
    rw (turned key e.0 Less less) (ap (λ l. e ∷ l) (put-place es key v place d sorted.1 (here, at.1)))

all_put_at : (o : Ordering) (x key : List ℕ) (e : Entry) (es rest : List Entry) (v : Data) → compared x key ≡ Less → AllByRecursion (λ y. compared x y ≡ Less) (keys_of (e ∷ es))
    → AllByRecursion (λ y. compared x y ≡ Less) (keys_of rest) → AllByRecursion (λ y. compared x y ≡ Less) (keys_of (match_ordering o ((key, v) ∷ e ∷ es) ((e.0, v) ∷ es) (e ∷ rest)))
all_put_at Less x key e es rest v less all more = (less, all)
all_put_at Equal x key e es rest v less all more = all
all_put_at Greater x key e es rest v less all more = (all.0, more)

all_put : (x key : List ℕ) (es : List Entry) (v : Data) → compared x key ≡ Less → AllByRecursion (λ y. compared x y ≡ Less) (keys_of es) → AllByRecursion (λ y. compared x y ≡ Less) (keys_of (insert_entry compared es key v))
all_put x key [] v less all = (less, tt)
all_put x key (e ∷ es) v less all = all_put_at (compared key e.0) x key e es _ v less all (all_put x key es v less all.1)

all_past : (x y : List ℕ) (ks : List (List ℕ)) → compared x y ≡ Less → AllByRecursion (λ z. compared y z ≡ Less) ks → AllByRecursion (λ z. compared x z ≡ Less) ks
all_past x y [] less all = tt
all_past x y (k ∷ ks) less all = (nat_list_cmp_total.trans x y k less all.0, all_past x y ks less all.1)

put_sorted_at : (o : Ordering) (key : List ℕ) (e : Entry) (es : List Entry) (v : Data) → compared key e.0 ≡ o → AreSorted (e ∷ es) → AreSorted (insert_entry compared es key v)
    → AreSorted (match_ordering o ((key, v) ∷ e ∷ es) ((e.0, v) ∷ es) (e ∷ insert_entry compared es key v))
unfolding IsStrictlySortedBy
put_sorted_at Less key e es v is sorted more = ((is, all_past key e.0 (keys_of es) is sorted.0), sorted)
put_sorted_at Equal key e es v is sorted more = sorted
put_sorted_at Greater key e es v is sorted more = (all_put e.0 key es v (turned e.0 key Greater is) sorted.0, more)

-- the keys stay distinct and in order
pub put_sorted : (es : List Entry) (key : List ℕ) (v : Data) → AreSorted es → AreSorted (insert_entry compared es key v)
unfolding IsStrictlySortedBy
put_sorted [] key v sorted = (tt, tt)
put_sorted (e ∷ es) key v sorted = put_sorted_at _ key e es v refl sorted (put_sorted es key v sorted.1)

put_texts_at : (o : Ordering) (key : List ℕ) (e : Entry) (es rest : List Entry) (v : Data) → HaveTextKeys (e ∷ es) → IsUtf8 key → HaveTextKeys rest
    → HaveTextKeys (match_ordering o ((key, v) ∷ e ∷ es) ((e.0, v) ∷ es) (e ∷ rest))
put_texts_at Less key e es rest v texts utf8 more = (utf8, texts)
put_texts_at Equal key e es rest v texts utf8 more = texts
put_texts_at Greater key e es rest v texts utf8 more = (texts.0, more)

-- and the keys stay UTF-8
pub put_texts : (es : List Entry) (key : List ℕ) (v : Data) → HaveTextKeys es → IsUtf8 key → HaveTextKeys (insert_entry compared es key v)
put_texts [] key v texts utf8 = (utf8, tt)
put_texts (e ∷ es) key v texts utf8 = put_texts_at _ key e es _ v texts utf8 (put_texts es key v texts.1 utf8)

found_at : (o : Ordering) (key : List ℕ) (e : Entry) (es rest : List Entry) (v : Data) → compared key e.0 ≡ o → member_of key rest ≡ Some v
    → member_of key (match_ordering o ((key, v) ∷ e ∷ es) ((e.0, v) ∷ es) (e ∷ rest)) ≡ Some v
found_at Less key e es rest v is more = rw (bytes_eq_itself key) refl
found_at Equal key e es rest v is more = rw ((bytes_eq-Decides key e.0).1 (equal_texts key e.0 is)) refl
found_at Greater key e es rest v is more = rw (apart e.0 key (less_not_equal _ (turned e.0 key Greater is))) more

-- what was put at a key is found there
pub member_of-put : (key : List ℕ) (es : List Entry) (v : Data) → member_of key (insert_entry compared es key v) ≡ Some v
member_of-put key [] v = rw (bytes_eq_itself key) refl
member_of-put key (e ∷ es) v = found_at _ key e es _ v refl (member_of-put key es v)

other_at : (o : Ordering) (key other : List ℕ) (e : Entry) (es rest : List Entry) (v : Data) → compared key e.0 ≡ o → bytes_eq other key ≡ false → member_of other rest ≡ member_of other es
    → member_of other (match_ordering o ((key, v) ∷ e ∷ es) ((e.0, v) ∷ es) (e ∷ rest)) ≡ member_of other (e ∷ es)
other_at Less key other e es rest v is apart more = rw apart refl
other_at Equal key other e es rest v is apart more =
    let off : bytes_eq other e.0 ≡ false = ap (bytes_eq other) (sym (equal_texts key e.0 is)) ∙ apart in
    rw off refl
other_at Greater key other e es rest v is apart more = ap (cond (bytes_eq other e.0) (Some e.1)) more

-- what was at another key is found there still
pub member_of-put_other : (key other : List ℕ) (es : List Entry) (v : Data) → bytes_eq other key ≡ false → member_of other (insert_entry compared es key v) ≡ member_of other es
member_of-put_other key other [] v apart = rw apart refl
member_of-put_other key other (e ∷ es) v apart = other_at _ key other e es _ v refl apart (member_of-put_other key other es v apart)

-- a search by halving ends at the key, or at the gap for it
pub searched : (es : List Entry) → AreSorted es → (key : List ℕ) (r : Result ℕ ℕ) → IsSearchInRange r (length es) → IsBinarySearchResult (λ e. compared e.0 key) es r
    → IfOk r (IsPlaceOf key es) × IfErr r (IsGapFor key es)
searched es sorted key (Ok place) within equal = ((within, equal), tt)
searched es sorted key (Err place) within parted =
    let sides = parted (searchable es key sorted) in
    (tt, record { within = within; below = λ k d lt. sides.0 k d (omega arith) lt; above = sides.1 })

pub none_sorted : AreSorted []
unfolding IsStrictlySortedBy
none_sorted = tt
