-- Where lines end.
use Rattle.std.proofs.Common.{◌≡◌, ℕ, zero, suc, ◌+◌, ◌==◌, ◌<◌, ◌≤◌, nat_lt, List, [], ◌∷◌, ◌++◌, length, take, drop, get_or, Bool, true, false, not, ◌&&◌, cond, if◌then◌else◌, inl, inr, refl, sym, ap, ◌∙◌, subst, arith, append_assoc, length-append, lt-ltb, take-append-drop}
use Rattle.std.proofs.lemmas.Bool.{and_parts, cases_Bool, eqb-true, leb-true, ltb-true}
use Rattle.std.proofs.lemmas.Bool.Decides.{nat_tests}
use Rattle.std.proofs.lemmas.List.{drop_at, drop_more, take_at}
use Rattle.std.proofs.lemmas.List.Sums.{passes_at_first}
use Rattle.std.specs.List.{list_all}
use Rattle.journal_lines.specs.Lines.{behind_line, first_line, has_line, is_inner, line_len}
use Rattle.journal_lines.specs.Spelled.{has_no_end}

no_end : (b : ℕ) → is_inner b ≡ true → not (b == 10) ≡ true
no_end b inner = let big : 32 ≤ b = leb-true 32 b inner in grind (arith, nat_tests)

-- inside a line none ends
pub inner_whole : (line : List ℕ) → list_all is_inner line ≡ true → has_no_end line ≡ true
inner_whole [] inner = refl
inner_whole (b ∷ line) inner =
    let parts = and_parts (is_inner b) _ inner in
    rw (no_end b parts.0) (inner_whole line parts.1)

-- the first line of a line with its end, whatever stands behind it
pub line_then : (line behind : List ℕ) → has_no_end line ≡ true → line_len (line ++ 10 ∷ behind) ≡ length line
line_then [] behind whole = refl
line_then (b ∷ line) behind whole =
    let parts = and_parts (not (b == 10)) _ whole in
    rw parts.0 (omega (arith, line_then line behind parts.1))

module _ (line behind : List ℕ) (whole : has_no_end line ≡ true) where
  abbrev line_text : List ℕ
  line_text = line ++ 10 ∷ behind

  pub first_then : first_line line_text ≡ line
  first_then = ap (λ n. take n line_text) (line_then line behind whole) ∙ take_at line (10 ∷ behind) (length line) refl

  pub behind_then : behind_line line_text ≡ behind
  behind_then =
      let size : length (line ++ 10 ∷ []) ≡ length line + 1 = length-append line (10 ∷ []) in
      ap (λ n. drop (n + 1) line_text) (line_then line behind whole)
      ∙ ap (λ (l : List ℕ). drop (length line + 1) l) (sym (append_assoc line (10 ∷ []) behind))
      ∙ drop_at (line ++ 10 ∷ []) behind (length line + 1) size

  pub has_then : has_line line_text ≡ true
  has_then = lt-ltb _ _ (omega (arith, line_then line behind whole, length-append line (10 ∷ behind)))

-- ---- a text in which a line ends

-- no line ends in the first line
pub front_whole : (text : List ℕ) → has_no_end (first_line text) ≡ true
front_whole [] = refl
front_whole (b ∷ text) = elim (cases_Bool (not (b == 10))) [
  | inl t ↦
      let e : 1 + line_len text ≡ suc (line_len text) = omega arith in
      rw (t, e, t) (front_whole text)
  | inr f ↦ rw f refl
]

-- it is the first line with its end, and what stands behind it
pub split_line : (text : List ℕ) → has_line text ≡ true → text ≡ first_line text ++ 10 ∷ behind_line text
split_line text has =
    let n = line_len text in
    let within : line_len text < length text = ltb-true _ _ has in
    let ten : get_or text (line_len text) 0 ≡ 10 = eqb-true (get_or text (line_len text) 0) 10 (passes_at_first (λ b. b == 10) text 0 within) in
    sym (take-append-drop n text)
    ∙ ap (λ (l : List ℕ). take n text ++ l) (drop_more text n 0 within)
    ∙ ap (λ b. take n text ++ b ∷ drop (n + 1) text) ten
