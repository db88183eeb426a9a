-- The head of a message is one of the grammar, however long it is.
use Rattle.binding_laws.proofs.Words.{◌≡◌, ℕ, ◌+◌, ◌<◌, Bool, true, List, [], ◌∷◌, ◌++◌, map, length, Some, IsTrue, inl, inr, refl, sym, ap, subst, ◌∙◌, arith, suc, append_assoc, All, flat_map, list_all, unwrap_or}
use Rattle.binding_laws.proofs.Terms.{Ask, IsTarget, Line, head_text}
use Rattle.binding_laws.proofs.Facts.{All-cons, All-nil, AllPass-from_list_all, and_parts, cases_Bool, cond-true, cond-false, ltb-true, nat_tests}
use Rattle.std.proofs.Common.{zero, ◌*◌, ◌/◌, ◌%◌, ◌&&◌, leb, ltb}
use Rattle.std.specs.Char.{digit_value, is_ascii_digit}
use Rattle.std.proofs.lemmas.Bool.Decides.{Decides-below_and}
use Rattle.std.proofs.lemmas.List.Elements.{All-head, All-tail}
use Rattle.http.specs.StatusCode.{reason_phrase}
use Rattle.httparse.specs.Grammar.{AllPass, Field, IsField, IsToken, RequestHead, ResponseHead, crlf, is_value_byte, print_field, print_request, print_response, print_version, status_code, trim_ows}
use Rattle.httparse.specs.Spans.{name_and_value}
use Rattle.httparse.proofs.GrammarLemmas.{cons-append}
use Rattle.http_frames.specs.Frame.{IsHead}
use Rattle.http_frames.specs.Text.{IsLine, line_text, phrase_of, status_digits}
use Rattle.http_frames.specs.declared.frame.Side.TheVariants.{Reply, Request}
use Rattle.http_frames.specs.declared.frame.Start.TheVariants.{Answer}

-- ---- the lines

-- a line as the grammar of a head has it
abbrev field_of : Line → Field
field_of line = record { name = line.0; raw = 32 ∷ line.1; end = crlf }

-- the space in front of the value is no part of it
trim-space : (v : List ℕ) → trim_ows (32 ∷ v) ≡ trim_ows v
unfolding trim_ows
trim-space v = refl

fields_are : (lines : List Line) → All IsLine lines → map name_and_value (map field_of lines) ≡ lines
fields_are [] all = refl
fields_are (line ∷ lines) all =
    let here : IsLine line = All-head IsLine line lines all in
    let same : name_and_value (field_of line) ≡ line = λ i. (line.0, (trim-space line.1 ∙ here.2) i) in
    λ i. same i ∷ fields_are lines (All-tail IsLine line lines all) i

fields_valid : (lines : List Line) → All IsLine lines → All IsField (map field_of lines)
fields_valid [] all = All-nil IsField
fields_valid (line ∷ lines) all =
    let here : IsLine line = All-head IsLine line lines all in
    let valid : IsField (field_of line) = record {
      name = here.0;
      raw = All-cons (λ b. IsTrue (is_value_byte b)) 32 line.1 refl here.1;
    } in
    All-cons IsField (field_of line) (map field_of lines) valid (fields_valid lines (All-tail IsLine line lines all))

texts_are : (lines : List Line) → flat_map print_field (map field_of lines) ≡ flat_map line_text lines
texts_are [] = refl
texts_are (line ∷ lines) = λ i. append_assoc line.0 (58 ∷ 32 ∷ line.1) (13 ∷ 10 ∷ []) i ++ texts_are lines i

-- ---- of a request

abbrev head_of : List ℕ → List ℕ → List Line → RequestHead
head_of method target lines = record {
  blank = [];
  method = method;
  target = target;
  minor = 1;
  line_end = crlf;
  fields = map field_of lines;
  last = crlf;
}

-- three parts with a space between them, and what follows
nested : (m t w c s : List ℕ) → (m ++ (32 ∷ t ++ (32 ∷ w ++ c))) ++ s ≡ m ++ 32 ∷ (t ++ 32 ∷ (w ++ (c ++ s)))
nested m t w c s =
    append_assoc m (32 ∷ (t ++ 32 ∷ (w ++ c))) s ∙ ap (λ v. m ++ 32 ∷ v) (append_assoc t (32 ∷ (w ++ c)) s)
    ∙ ap (λ v. m ++ 32 ∷ (t ++ 32 ∷ v)) (append_assoc w c s)

regrouped : (m t w c s : List ℕ)
    → ((([] ++ m ++ 32 ∷ t) ++ 32 ∷ w) ++ c) ++ s ≡ (m ++ (32 ∷ t ++ (32 ∷ w ++ c))) ++ s
regrouped m t w c s =
    let one_by_one : ((([] ++ m ++ 32 ∷ t) ++ 32 ∷ w) ++ c) ++ s ≡ m ++ 32 ∷ (t ++ 32 ∷ (w ++ (c ++ s))) =
    simp (append_assoc, cons-append) in
    one_by_one ∙ sym (nested m t w c s)

head_printed : (method target : List ℕ) (lines : List Line) (body : List ℕ)
    → head_text (record { start = Ask method target 1; lines = lines; body = body }) ≡ print_request (head_of method target lines)
unfolding print_request
head_printed method target lines body =
    sym (regrouped method target (print_version 1) (13 ∷ 10 ∷ []) (flat_map print_field (map field_of lines) ++ 13 ∷ 10 ∷ [])
    ∙ (λ i. (method ++ (32 ∷ target ++ (32 ∷ print_version 1 ++ 13 ∷ 10 ∷ []))) ++ (texts_are lines i ++ 13 ∷ 10 ∷ [])))

pub request_head_is : (method target : List ℕ) (lines : List Line) (body : List ℕ) → IsToken method → IsTarget target → All IsLine lines
    → IsHead Request (head_text (record { start = Ask method target 1; lines = lines; body = body })) (Ask method target 1) lines
request_head_is method target lines body token is all = record {
  head = head_of method target lines;
  valid = record {
    method = token;
    target = (is.0, is.1);
    target_text = is.2;
    minor = omega arith;
    fields = fields_valid lines all;
  };
  text_is = head_printed method target lines body;
  start_is = refl;
  lines_are = sym (fields_are lines all);
}

-- ---- of a reply

abbrev answer_of : ℕ → List Line → ResponseHead
answer_of status lines = record {
  blank = [];
  minor = 1;
  digits = status_digits status;
  reason = Some (phrase_of status);
  line_end = crlf;
  fields = map field_of lines;
  last = crlf;
}

answer_regrouped : (w d p c s : List ℕ)
    → (((([] ++ w) ++ 32 ∷ d) ++ 32 ∷ p) ++ c) ++ s ≡ (w ++ (32 ∷ d ++ (32 ∷ p ++ c))) ++ s
answer_regrouped w d p c s =
    let one_by_one : (((([] ++ w) ++ 32 ∷ d) ++ 32 ∷ p) ++ c) ++ s ≡ w ++ 32 ∷ (d ++ 32 ∷ (p ++ (c ++ s))) =
    simp (append_assoc, cons-append) in
    one_by_one ∙ sym (nested w d p c s)

answer_printed : (status : ℕ) (lines : List Line) (body : List ℕ)
    → head_text (record { start = Answer status 1; lines = lines; body = body }) ≡ print_response (answer_of status lines)
unfolding print_response
answer_printed status lines body =
    sym (answer_regrouped (print_version 1) (status_digits status) (phrase_of status) (13 ∷ 10 ∷ []) (flat_map print_field (map field_of lines) ++ 13 ∷ 10 ∷ [])
    ∙ (λ i. (print_version 1 ++ (32 ∷ status_digits status ++ (32 ∷ phrase_of status ++ 13 ∷ 10 ∷ []))) ++ (texts_are lines i ++ 13 ∷ 10 ∷ [])))

-- the digit of a number below ten
digit_worth : (d : ℕ) → d < 10 → (digit_value (48 + d) ≡ d) × (is_ascii_digit (48 + d) ≡ true)
digit_worth d small = (grind (arith, nat_tests), grind (arith, nat_tests))

status_worth : (status : ℕ) (lines : List Line) → status < 1000 → status_code (answer_of status lines) ≡ status
status_worth status lines small =
    let a : digit_value (48 + status / 100 % 10) ≡ status / 100 % 10 = (digit_worth (status / 100 % 10) (omega arith)).0 in
    let b : digit_value (48 + status / 10 % 10) ≡ status / 10 % 10 = (digit_worth (status / 10 % 10) (omega arith)).0 in
    let c : digit_value (48 + status % 10) ≡ status % 10 = (digit_worth (status % 10) (omega arith)).0 in
    let value : status_code (answer_of status lines) ≡ ((0 * 10 + status / 100 % 10) * 10 + status / 10 % 10) * 10 + status % 10 =
    λ i. ((0 * 10 + a i) * 10 + b i) * 10 + c i in
    value ∙ omega arith

status_valid : (status : ℕ) → (length (status_digits status) ≡ 3) × AllPass is_ascii_digit (status_digits status)
status_valid status =
    let P : ℕ → Type 0 = λ b. IsTrue (is_ascii_digit b) in (
      refl,
      All-cons P (48 + status / 100 % 10) ((48 + status / 10 % 10) ∷ (48 + status % 10) ∷ []) (digit_worth (status / 100 % 10) (omega arith)).1
          (All-cons P (48 + status / 10 % 10) ((48 + status % 10) ∷ []) (digit_worth (status / 10 % 10) (omega arith)).1
          (All-cons P (48 + status % 10) [] (digit_worth (status % 10) (omega arith)).1 (All-nil P))),
    )

-- each phrase is a text that a status line may have
abbrev phrases_below : ℕ → Bool
phrases_below zero = true
phrases_below (suc n) = list_all is_value_byte (unwrap_or (reason_phrase n) []) && phrases_below n

phrase_valid : (status : ℕ) → AllPass is_value_byte (phrase_of status)
unfolding phrase_of
phrase_valid status =
    elim (cases_Bool (leb 100 status && ltb status 1000)) [
      | inl inside ↦
          let test = λ (k : ℕ). list_all is_value_byte (unwrap_or (reason_phrase k) []) in
          let below = (Decides-below_and test (λ k. test k ≡ true) phrases_below (λ k. (λ x. x, λ x. x)) refl (λ _. refl) 1000).0 refl
          status (ltb-true status 1000 (and_parts (leb 100 status) (ltb status 1000) inside).1) in
          subst (λ (t : List ℕ). AllPass is_value_byte t) (sym (cond-true _ _ _ inside)) (AllPass-from_list_all is_value_byte _ below)
      | inr outside ↦ subst (λ (t : List ℕ). AllPass is_value_byte t) (sym (cond-false _ _ _ outside)) (All-nil (λ b. IsTrue (is_value_byte b)))
    ]

pub reply_head_is : (status : ℕ) (lines : List Line) (body : List ℕ) → status < 1000 → All IsLine lines
    → IsHead Reply (head_text (record { start = Answer status 1; lines = lines; body = body })) (Answer status 1) lines
reply_head_is status lines body small all = record {
  head = answer_of status lines;
  valid = record {
    minor = omega arith;
    digits = status_valid status;
    reason = phrase_valid status;
    fields = fields_valid lines all;
  };
  text_is = answer_printed status lines body;
  start_is = λ i. Answer (sym (status_worth status lines small) i) 1;
  lines_are = sym (fields_are lines all);
}
