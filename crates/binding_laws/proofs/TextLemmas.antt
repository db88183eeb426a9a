-- Numbers, words and values in texts.
use Rattle.binding_laws.proofs.Words.{◌≡◌, ℕ, ◌<◌, ◌^◌, ◌==◌, ◌&&◌, Bool, true, false, not, cond, List, [], ◌∷◌, length, Option, Some, None, IsUtf8, inl, inr, refl, sym, ap, subst, ◌∙◌, arith, ℤ, pos, is_some, nat_lt, option_map, decimal, signed_decimal, IsInRange, AllByRecursion, list_all, onto_first, cons_option, filter_map, AllDigits}
use Rattle.binding_laws.proofs.Terms.{is_numeral, number_spelled, is_type_number, where_it, is_label_text, is_among, words_of, whole_spelled, spells_label, labels_spelled, type_spelled, is_type_text, types_spelled}
use Rattle.binding_laws.proofs.Facts.{and_from, cases_Bool, cond-true, cond-false, false≢true, le-leb, leb-true, lt-ltb, ne_eqb, not-true, Decides-int_eq, decimal_is_IsNumeral, length-decimal-le, IsAscii-decimal, IsUtf8-from_ascii, is_utf8-from_IsUtf8}
use Rattle.std.specs.Char.{is_ascii_digit}
use Rattle.std.specs.Ordering.{int_eq}
use Rattle.std.proofs.lemmas.Str.Parse.{digit_from_value}
use Rattle.binding_laws.specs.ReadBack.{is_no_space}
use Rattle.binding_laws.proofs.EachLemmas.{each_parts}

-- ---- digits

pub digits_pass : (test : ℕ → Bool) → ((c : ℕ) → IsInRange 48 57 c → test c ≡ true) → (ds : List ℕ) → AllDigits 10 ds → list_all test ds ≡ true
digits_pass test f [] all = refl
digits_pass test f (c ∷ ds) all = and_from _ _ (f c (digit_from_value c all.0)) (digits_pass test f ds all.1)

pub digit_is : (c : ℕ) → IsInRange 48 57 c → is_ascii_digit c ≡ true
digit_is c h = and_from _ _ (le-leb 48 c h.0) (le-leb c 57 h.1)

digit_word : (c : ℕ) → IsInRange 48 57 c → is_no_space c ≡ true
digit_word c h = ap not (ne_eqb c 32 (λ e. omega (arith, e, h.0)))

-- a number of at most 18 digits is one by its digits
numeral_is : (n : ℕ) → n < 10 ^ 18 → is_numeral (decimal n) ≡ true
numeral_is n small =
    let numeral = (decimal_is_IsNumeral n (omega (arith, small))).0 in
    and_from _ _
    (and_from _ _ (lt-ltb 0 (length (decimal n)) (omega (arith, numeral.0))) (le-leb (length (decimal n)) 18 (length-decimal-le 18 n (omega arith) small (omega (arith, small)))))
    (digits_pass is_ascii_digit digit_is (decimal n) numeral.1)

pub number_back : (n : ℕ) → n < 10 ^ 18 → number_spelled (decimal n) ≡ Some n
number_back n small = cond-true _ _ _ (numeral_is n small) ∙ ap Some (decimal_is_IsNumeral n (omega (arith, small))).1

pub decimal_utf8 : (n : ℕ) → n < 10 ^ 18 → IsUtf8 (decimal n)
decimal_utf8 n small = IsUtf8-from_ascii (decimal n) (IsAscii-decimal n (omega (arith, small)))

digit_byte : (c : ℕ) → IsInRange 48 57 c → nat_lt c 256 ≡ true
digit_byte c h = lt-ltb c 256 (omega (arith, h.1))

pub decimal_bytes : (n : ℕ) → n < 10 ^ 18 → list_all (λ b. nat_lt b 256) (decimal n) ≡ true
decimal_bytes n small = digits_pass (λ b. nat_lt b 256) digit_byte (decimal n) (decimal_is_IsNumeral n (omega (arith, small))).0.1

pub decimal_word : (n : ℕ) → n < 10 ^ 18 → list_all is_no_space (decimal n) ≡ true
decimal_word n small = digits_pass is_no_space digit_word (decimal n) (decimal_is_IsNumeral n (omega (arith, small))).0.1

-- ---- words

-- a text without a space is one word
pub word_alone : (text : List ℕ) → list_all is_no_space text ≡ true → words_of text ≡ text ∷ []
word_alone [] h = refl
word_alone (b ∷ text) h =
    let parts = each_parts is_no_space b text h in
    cond-false _ _ _ (not-true (b == 32) parts.first) ∙ ap (onto_first b) (word_alone text parts.rest)

pub label_back : (label : List ℕ) → is_label_text label ≡ true → IsUtf8 label → list_all is_no_space label ≡ true → labels_spelled label ≡ Some (label ∷ [])
label_back label kind utf8 word =
    ap (λ w. cond (list_all spells_label w) (Some w) None) (word_alone label word)
    ∙ cond-true _ _ _ (and_from _ _ (and_from _ _ kind (is_utf8-from_IsUtf8 label utf8)) refl)

pub type_small : (n : ℕ) → is_type_number n ≡ true → n < 10 ^ 18
type_small n h = omega (arith, leb-true n 65535 h)

pub type_back : (n : ℕ) → is_type_number n ≡ true → types_spelled (decimal n) ≡ Some (n ∷ [])
type_back n h =
    let spelled : type_spelled (decimal n) ≡ Some n = ap (where_it is_type_number) (number_back n (type_small n h)) ∙ cond-true _ _ _ h in
    ap (λ w. cond (list_all is_type_text w) (Some (filter_map type_spelled w)) None) (word_alone (decimal n) (decimal_word n (type_small n h)))
    ∙ ap (λ (o : Option ℕ). cond (is_some o && true) (Some (cons_option o [])) None) spelled

-- ---- numbers out of a few

-- what holds of each of these holds of one that is among them
pub among_is : (P : ℤ → Type 0) (numbers : List ℤ) (z : ℤ) → AllByRecursion P numbers → is_among numbers z ≡ true → P z
among_is P [] z all h = absurd (false≢true h)
among_is P (n ∷ numbers) z all h = elim (cases_Bool (int_eq n z)) [
  | inl same ↦ subst P ((Decides-int_eq n z).0 same) all.0
  | inr other ↦ among_is P numbers z all.1 (rw other at h)
]

-- a number from 0 on, of at most 18 digits
abbrev pub IsShort : ℤ → Type 0
IsShort z = (n : ℕ) × (z ≡ pos n) × (n < 10 ^ 18)

pub short_by : (n : ℕ) → n < 10 ^ 18 → IsShort (pos n)
short_by n small = (n, refl, small)

pub whole_back : (z : ℤ) → IsShort z → whole_spelled (signed_decimal z) ≡ Some z
whole_back z h = subst (λ (y : ℤ). whole_spelled (signed_decimal y) ≡ Some y) (sym h.1) (ap (option_map pos) (number_back h.0 h.2))
