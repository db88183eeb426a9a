-- The type of a content, with the number of a type, is read back.
use Rattle.binding_laws.proofs.Words.{◌≡◌, ℕ, ◌+◌, ◌-◌, ◌<◌, ◌^◌, ◌==◌, Bool, true, false, not, cond, List, [], ◌∷◌, ◌++◌, length, take, drop, codes, reverse, Option, Some, None, IfSome, IsTrue, refl, sym, ap, ◌∙◌, arith, fold, decimal, IsInRange, option_map_or, list_all, onto_first, prefix_len, slice_split, suffix_len, digits_value}
use Rattle.binding_laws.proofs.Terms.{is_decimal, is_type_number, split_once_front, split_once_back, before_spaces, between_spaces, equals_sign, front_of, is_media_type, is_space, is_type_digits, json_type, next_said, parameter_said, parameters_of, piece_said, semicolon, type_digits_said, type_parameter, type_said, content_type}
use Rattle.binding_laws.proofs.Facts.{and_from, cond-true, le-leb, lt-ltb, ne_eqb, leb-true, not-true, decimal_is_IsNumeral, length-decimal-le, take_all, all_reversed}
use Rattle.http_frames.specs.Lines.{is_same_name}
use Rattle.binding_laws.specs.ReadBack.{is_no_space}
use Rattle.binding_laws.proofs.EachLemmas.{each_parts}
use Rattle.binding_laws.proofs.CutLemmas.{back_at, front_at, is_other, split_none}
use Rattle.binding_laws.proofs.TextLemmas.{decimal_word, digit_is, digits_pass}

-- the number of a type has 1 to 5 digits
type_digits : (n : ℕ) → is_type_number n ≡ true → is_type_digits (decimal n) ≡ true
type_digits n h =
    let small : n < 10 ^ 5 = omega (arith, leb-true n 65535 h) in
    let numeral = (decimal_is_IsNumeral n (omega (arith, small))).0 in
    and_from _ _
    (and_from _ _ (lt-ltb 0 (length (decimal n)) (omega (arith, numeral.0))) (le-leb (length (decimal n)) 5 (length-decimal-le 5 n (omega arith) small (omega (arith, small)))))
    (digits_pass _ digit_is (decimal n) numeral.1)

digits_said : (n : ℕ) → is_type_number n ≡ true → type_digits_said (decimal n) ≡ Some (Some n)
digits_said n h =
    let small : n < 10 ^ 5 = omega (arith, leb-true n 65535 h) in
    cond-true _ _ _ (type_digits n h) ∙ ap (λ v. Some (Some v)) (decimal_is_IsNumeral n (omega (arith, small))).1

digit_parts : (c : ℕ) → IsInRange 48 57 c → is_other 59 c ≡ true
digit_parts c h = ap not (ne_eqb c 59 (λ e. omega (arith, e, h.1)))

-- no space stands at the front or at the end
none_before : (text : List ℕ) → list_all is_no_space text ≡ true → prefix_len is_space text ≡ 0
none_before [] h = refl
none_before (b ∷ text) h =
    ap (λ t. cond t (1 + prefix_len is_space text) 0) (not-true (b == 32) (each_parts is_no_space b text h).first)

words_stay : (text : List ℕ) → list_all is_no_space text ≡ true → between_spaces text ≡ text
words_stay text h =
    ap before_spaces (ap (λ n. drop n text) (none_before text h))
    ∙ ap (λ n. take (length text - n) text) (none_before (reverse text) (all_reversed is_no_space text h))
    ∙ take_all (length text - 0) text (omega arith)

-- what a type of content says, without a number and with one
pub type_back_said : (type : Option ℕ) → IfSome type (λ n. IsTrue (is_type_number n)) → type_said (content_type type) ≡ Some type
unfolding is_same_name
type_back_said None h = refl
type_back_said (Some n) h =
    let small : n < 10 ^ 18 = omega (arith, leb-true n 65535 h) in
    let one : List ℕ = codes "ty" ++ 61 ∷ decimal n in
    let value : List ℕ = json_type ++ 59 ∷ one in
    let no_semicolon : list_all (is_other 59) (decimal n) ≡ true =
    digits_pass (is_other 59) digit_parts (decimal n) (decimal_is_IsNumeral n (omega (arith, small))).0.1 in
    let front : is_media_type (front_of value) ≡ true = ap (λ t. is_media_type (between_spaces t)) (front_at 59 json_type one refl refl) in
    let parameters : parameters_of value ≡ one ∷ [] =
    ap (λ o. option_map_or (slice_split (λ b. b == 59)) o []) (back_at 59 json_type one refl refl) ∙ split_none 59 one no_semicolon in
    let said : piece_said None (between_spaces one) ≡ Some (Some n) =
    ap (piece_said None) (words_stay one (decimal_word n small))
    ∙ (λ i. option_map_or (parameter_said None (front_at 61 (codes "ty") (decimal n) refl refl i)) (back_at 61 (codes "ty") (decimal n) refl refl i) None)
    ∙ digits_said n h in
    cond-true _ (fold next_said (Some None) (parameters_of value)) None front ∙ ap (fold next_said (Some None)) parameters ∙ said
