-- No byte below 32 stands in the text of a value.
use Rattle.std.proofs.Common.{◌≡◌, ℕ, zero, suc, ◌+◌, ◌/◌, ◌%◌, ◌==◌, ◌<◌, ◌≤◌, ℤ, pos, negsuc, nat_le, nat_lt, List, [], ◌∷◌, ◌++◌, flat_map, codes, Bool, true, false, not, ◌&&◌, cond, if◌then◌else◌, Option, Some, None, IfSome, decimal, refl, sym, ap, ◌∙◌, subst, arith, inl, inr, le-leb}
use Rattle.std.proofs.lemmas.Bool.{and_from, and_parts, cases_Bool, leb-true, ltb-false}
use Rattle.std.proofs.lemmas.List.Elements.{All-from_recursion}
use Rattle.std.proofs.lemmas.List.Folds.{list_all-append}
use Rattle.std.proofs.lemmas.Map.Entries.{All-lookup}
use Rattle.std.specs.Char.{digit_char}
use Rattle.std.specs.Fmt.{digits, digits_onto, signed_decimal}
use Rattle.std.specs.List.{list_all}
use Rattle.std.specs.Map.{lookup}
use Rattle.m2m_value.specs.Data.{Data, null, boolean, number, text, list, object, Elements, no_elements, element, Pairs, no_pairs, pair}
use Rattle.m2m_value.specs.Spelling.{comma_at, elements_from, escaped, escaped_by, long_escape, pairs_from, quoted, short_escape, short_escapes, text_of, truth_word}
use Rattle.journal_lines.specs.Lines.{is_inner}

pub inner_append : (xs ys : List ℕ) → list_all is_inner xs ≡ true → list_all is_inner ys ≡ true → list_all is_inner (xs ++ ys) ≡ true
inner_append xs ys first second = list_all-append is_inner xs ys ∙ and_from _ _ first second

inner_glyph : (d : ℕ) → is_inner (digit_char d) ≡ true
inner_glyph d = elim (cases_Bool (nat_lt d 10)) [
  | inl t ↦ rw t (le-leb 32 (48 + d) (omega arith))
  | inr f ↦ rw f (le-leb 32 (87 + d) (omega arith))
]

inner_digits : (k n : ℕ) (behind : List ℕ) → list_all is_inner behind ≡ true → list_all is_inner (digits_onto k 10 false n behind) ≡ true
inner_digits zero n behind inner = inner
inner_digits (suc k) n behind inner =
    let more : list_all is_inner (digit_char (n % 10) ∷ behind) ≡ true = and_from _ _ (inner_glyph (n % 10)) inner in
    elim (cases_Bool (n / 10 == 0)) [
      | inl t ↦ rw t more
      | inr f ↦ rw f (inner_digits k (n / 10) (digit_char (n % 10) ∷ behind) more)
    ]

pub inner_decimal : (n : ℕ) → list_all is_inner (decimal n) ≡ true
unfolding digits
inner_decimal n = inner_digits 64 n [] refl

inner_signed : (z : ℤ) → list_all is_inner (signed_decimal z) ≡ true
inner_signed (pos n) = inner_decimal n
inner_signed (negsuc n) = inner_decimal (suc n)

inner_long : (byte : ℕ) → list_all is_inner (long_escape byte) ≡ true
inner_long byte = inner_append (codes "\\u00") (digit_char (byte / 16) ∷ digit_char (byte % 16) ∷ []) refl
    (and_from _ _ (inner_glyph (byte / 16)) (and_from _ _ (inner_glyph (byte % 16)) refl))

by_letter : (letter : Option ℕ) (byte : ℕ) → IfSome letter (λ l. is_inner l ≡ true) → list_all is_inner (escaped_by letter byte) ≡ true
by_letter (Some l) byte inner = and_from _ _ inner refl
by_letter None byte inner = elim (cases_Bool (nat_lt byte 32)) [
  | inl t ↦ rw t (inner_long byte)
  | inr f ↦ rw f (and_from _ _ (le-leb 32 byte (ltb-false byte 32 f)) refl)
]

inner_escape : (byte : ℕ) → list_all is_inner (escaped byte) ≡ true
inner_escape byte = by_letter (short_escape byte) byte
    (All-lookup (λ l. is_inner l ≡ true) (λ b. byte == b) short_escapes
    (All-from_recursion (λ e. is_inner e.1 ≡ true) short_escapes (refl, (refl, (refl, (refl, (refl, (refl, (refl, tt)))))))))

inner_escaped : (s : List ℕ) → list_all is_inner (flat_map escaped s) ≡ true
inner_escaped [] = refl
inner_escaped (b ∷ s) = inner_append (escaped b) (flat_map escaped s) (inner_escape b) (inner_escaped s)

inner_quoted : (s : List ℕ) → list_all is_inner (quoted s) ≡ true
inner_quoted s = inner_append (flat_map escaped s) (34 ∷ []) (inner_escaped s) refl

inner_comma : (place : ℕ) → list_all is_inner (comma_at place) ≡ true
inner_comma place = elim (cases_Bool (place == 0)) [
  | inl t ↦ rw t refl
  | inr f ↦ rw f refl
]

inner_truth : (b : Bool) → list_all is_inner (truth_word b) ≡ true
inner_truth true = refl
inner_truth false = refl

mutual
  pub inner_text : (d : Data) → list_all is_inner (text_of d) ≡ true
  inner_text null = refl
  inner_text (boolean b) = inner_truth b
  inner_text (number z) = inner_signed z
  inner_text (text s) = inner_quoted s
  inner_text (list es) = inner_append (elements_from es 0) (93 ∷ []) (inner_elements es 0) refl
  inner_text (object ps) = inner_append (pairs_from ps 0) (125 ∷ []) (inner_pairs ps 0) refl

  inner_elements : (es : Elements) (place : ℕ) → list_all is_inner (elements_from es place) ≡ true
  inner_elements no_elements place = refl
  inner_elements (element d es) place =
      inner_append (comma_at place) (text_of d ++ elements_from es (place + 1)) (inner_comma place)
      (inner_append (text_of d) (elements_from es (place + 1)) (inner_text d) (inner_elements es (place + 1)))

  inner_pairs : (ps : Pairs) (place : ℕ) → list_all is_inner (pairs_from ps place) ≡ true
  inner_pairs no_pairs place = refl
  inner_pairs (pair k d ps) place =
      inner_append (comma_at place) (quoted k ++ 58 ∷ (text_of d ++ pairs_from ps (place + 1))) (inner_comma place)
      (inner_append (quoted k) (58 ∷ (text_of d ++ pairs_from ps (place + 1))) (inner_quoted k)
      (inner_append (text_of d) (pairs_from ps (place + 1)) (inner_text d) (inner_pairs ps (place + 1))))
