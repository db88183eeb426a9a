-- The table of attributes.
use Rattle.std.proofs.Common.{add-one, ◌≡◌, ℕ, zero, suc, ◌<◌, ◌≢◌, List, [], ◌∷◌, length, get_or, Bool, true, false, not, ◌&&◌, bytes_eq, Some, None, find, Result, Ok, Err, MatchResult, Ordering, Less, Equal, Greater, is_eq, nat_cmp, inl, inr, refl, sym, ap, ◌∙◌, arith}
use Rattle.std.proofs.lemmas.Bool.{and_parts, cases_lt, false_from_ne_true, not-true}
use Rattle.std.proofs.lemmas.Cmp.{nat_list_cmp_total, tied_itself}
use Rattle.std.proofs.lemmas.List.Sorted.{searchable_from_sorted}
use Rattle.std.proofs.lemmas.Map.Text.{is_eq-slice_cmp}
use Rattle.std.proofs.lemmas.Slice.Eq.{bytes_eq-Decides}
use Rattle.std.specs.Cmp.Lexicographic.{slice_cmp}
use Rattle.std.specs.List.Sorted.{IsNonDecreasingBy, IsBinarySearchResult}
use Rattle.std.specs.Ordering.{ordering_index, is_lt}
use Rattle.m2m_names.proofs.LookupLemmas.{same_key}
use Rattle.m2m_names.specs.declared.attributes.Attr.{Attr}
use Rattle.m2m_names.specs.declared.attributes.Attr.TheVariants.{Aa, Acpi, Aei, Api, Apn, At, Cb, Cbs, Cnf, Cni, Cnm, Con, Cr, Cs, Csi, Cst, Csy, Ct, Enc, Et, Exc, Gn, Lbl, Lnk, Lt, Macp, Mbs, Mia, Mid, Mni, Mnm, Mt, Mtv, Nct, Nu, Pi, Poa, Pv, Pvs, Ri, Rn, Rr, Srt, Srv, St, Su, Ty}
use Rattle.m2m_names.specs.Attributes.{attr_short, attr_of_short, attr_cmp, all_attrs}

-- each attribute is found at its short name
pub attr_again : (a : Attr) → attr_of_short (attr_short a) ≡ Some a
attr_again Aa = refl
attr_again Acpi = refl
attr_again Aei = refl
attr_again Api = refl
attr_again Apn = refl
attr_again At = refl
attr_again Cb = refl
attr_again Cbs = refl
attr_again Cnf = refl
attr_again Cni = refl
attr_again Cnm = refl
attr_again Con = refl
attr_again Cr = refl
attr_again Cs = refl
attr_again Csi = refl
attr_again Cst = refl
attr_again Csy = refl
attr_again Ct = refl
attr_again Enc = refl
attr_again Et = refl
attr_again Exc = refl
attr_again Gn = refl
attr_again Lbl = refl
attr_again Lnk = refl
attr_again Lt = refl
attr_again Macp = refl
attr_again Mbs = refl
attr_again Mia = refl
attr_again Mid = refl
attr_again Mni = refl
attr_again Mnm = refl
attr_again Mt = refl
attr_again Mtv = refl
attr_again Nct = refl
attr_again Nu = refl
attr_again Pi = refl
attr_again Poa = refl
attr_again Pv = refl
attr_again Pvs = refl
attr_again Ri = refl
attr_again Rn = refl
attr_again Rr = refl
attr_again Srt = refl
attr_again Srv = refl
attr_again St = refl
attr_again Su = refl
attr_again Ty = refl

-- attributes with one short name are one attribute
pub same_attr : (a b : Attr) → attr_short a ≡ attr_short b → a ≡ b
same_attr = same_key attr_short attr_of_short attr_again

-- ---- a search by halving

-- no short name is below the one before it
abbrev rises : List Attr → Bool
rises [] = true
rises (a ∷ []) = true
rises (a ∷ b ∷ bs) = not (is_lt (attr_cmp b a)) && rises (b ∷ bs)

risen : (bs : List Attr) → rises bs ≡ true → (k : ℕ) (d : Attr) → suc k < length bs → is_lt (attr_cmp (get_or bs (suc k) d) (get_or bs k d)) ≡ false
risen [] up k d within = absurd (omega arith)
risen (a ∷ []) up k d within = absurd (omega arith)
risen (a ∷ b ∷ bs) up zero d within = not-true (is_lt (attr_cmp b a)) (and_parts (not (is_lt (attr_cmp b a))) (rises (b ∷ bs)) up).0
risen (a ∷ b ∷ bs) up (suc k) d within = risen (b ∷ bs) (and_parts (not (is_lt (attr_cmp b a))) (rises (b ∷ bs)) up).1 k d (omega arith)

-- what a search by halving asks
searchable : (text : List ℕ) → IsNonDecreasingBy (λ a. ordering_index (slice_cmp nat_cmp (attr_short a) text)) all_attrs
searchable text = searchable_from_sorted nat_list_cmp_total attr_short all_attrs text (λ k d low within.
    ap (λ j. is_lt (attr_cmp (get_or all_attrs j d) (get_or all_attrs k d))) (add-one k) ∙ risen all_attrs refl k d (omega arith))

-- texts that compare equal are one
pub equal_texts : (x y : List ℕ) → slice_cmp nat_cmp x y ≡ Equal → x ≡ y
equal_texts x y e = (bytes_eq-Decides x y).0 (sym (is_eq-slice_cmp x y) ∙ ap is_eq e)

apart : (x y : List ℕ) → slice_cmp nat_cmp x y ≢ Equal → bytes_eq x y ≡ false
apart x y ne = false_from_ne_true _ (λ t. ne (ap (slice_cmp nat_cmp x) (sym ((bytes_eq-Decides x y).0 t)) ∙ tied_itself nat_list_cmp_total x))

pub less_not_equal : (o : Ordering) → o ≡ Less → o ≢ Equal
less_not_equal o less equal = cc

pub greater_not_equal : (o : Ordering) → o ≡ Greater → o ≢ Equal
greater_not_equal o greater equal = cc

absent : (text : List ℕ) (bs : List Attr) → ((k : ℕ) (d : Attr) → k < length bs → slice_cmp nat_cmp (attr_short (get_or bs k d)) text ≢ Equal) → find (λ a. bytes_eq (attr_short a) text) bs ≡ None
absent text [] none = refl
absent text (b ∷ bs) none = rw (apart (attr_short b) text (none 0 b (omega arith))) (absent text bs (λ k d within. none (suc k) d (omega arith)))

-- what it found
pub found_by_halving : (text : List ℕ) (r : Result ℕ ℕ) → IsBinarySearchResult (λ a. slice_cmp nat_cmp (attr_short a) text) all_attrs r → MatchResult r (λ i. (d : Attr) → attr_of_short text ≡ Some (get_or all_attrs i d)) (λ i. attr_of_short text ≡ None)
found_by_halving text (Ok i) equal = λ d.
    ap attr_of_short (sym (equal_texts (attr_short (get_or all_attrs i d)) text (equal d))) ∙ attr_again (get_or all_attrs i d)
found_by_halving text (Err i) parted =
    let sides = parted (searchable text) in
    absent text all_attrs (λ k d within. elim (cases_lt k i) [
      | inl before ↦ less_not_equal _ (sides.0 k d (omega arith) before)
      | inr after ↦ greater_not_equal _ (sides.1 k d after within)
    ])
