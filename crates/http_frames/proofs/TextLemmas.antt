-- The text of a frame, and that it is read as that frame.
use Rattle.std.proofs.Common.{◌≡◌, ℕ, zero, suc, ◌+◌, ◌*◌, ◌/◌, ◌%◌, ◌<◌, ◌≤◌, Bool, true, ◌&&◌, leb, ltb, List, [], ◌∷◌, ◌++◌, length, map, Option, None, Some, Bor, refl, sym, ap, subst, ◌∙◌, inl, inr, arith, append_assoc}
use Rattle.std.specs.Prelude.{unwrap_or, option_map, All, IsTrue}
use Rattle.std.specs.List.{list_all, flat_map}
use Rattle.std.specs.Char.{is_ascii_digit, digit_value}
use Rattle.std.proofs.lemmas.Bool.{cases_Bool, and_parts, and_from, le-leb, lt-ltb, leb-true, ltb-true, cond-true, cond-false}
use Rattle.std.proofs.lemmas.Bool.Decides.{Decides-below_and, nat_tests}
use Rattle.std.proofs.lemmas.List.Elements.{All-nil, All-cons, All-head, All-tail}
use Rattle.std.proofs.lemmas.List.Sums.{AllPass-from_list_all}
use Rattle.http.specs.StatusCode.{IsStatusCode, reason_phrase}
use Rattle.httparse.specs.Grammar.{AllPass, is_value_byte, trim_ows, crlf, Field, print_field, IsField, print_version, RequestHead, print_request, ResponseHead, print_response, status_code}
use Rattle.httparse.specs.Spans.{name_and_value}
use Rattle.httparse.proofs.GrammarLemmas.{cons-append}
use Rattle.http_frames.specs.declared.frame.Side.{Side}
use Rattle.http_frames.specs.declared.frame.Side.TheVariants.{Request, Reply}
use Rattle.http_frames.specs.declared.frame.Start.{Start}
use Rattle.http_frames.specs.declared.frame.Start.TheVariants.{Ask, Answer}
use Rattle.http_frames.specs.Lines.{Line}
use Rattle.http_frames.specs.Frame.{IsFrame}
use Rattle.http_frames.specs.Text.{phrase_of, version_text, status_digits, line_text, head_text, frame_text, IsLine, IsSoundFrame, WrittenIsRead}

unwrap_now : (r : Option (Bor (List ℕ))) (d : Bor (List ℕ)) → (unwrap_or r d).now ≡ unwrap_or (option_map (λ s. s.now) r) d.now
unwrap_now None d = refl
unwrap_now (Some s) d = refl

-- a number of three digits is a status
status_parts : (n : ℕ) → (leb 100 n && ltb n 1000) ≡ true → IsStatusCode n
status_parts n inside =
    let parts = and_parts (leb 100 n) (ltb n 1000) inside in
    (leb-true 100 n parts.0, ltb-true n 1000 parts.1)

-- the phrase of a status
pub phrase_there : (n : ℕ) (r : Option (Bor (List ℕ))) (d shown : Bor (List ℕ)) → IsStatusCode n
    → option_map (λ s. s.now) r ≡ reason_phrase n → d.now ≡ [] → shown ≡ unwrap_or r d → shown.now ≡ phrase_of n
unfolding phrase_of
phrase_there n r d shown status e empty is =
    let test : (leb 100 n && ltb n 1000) ≡ true = and_from _ _ (le-leb 100 n status.0) (lt-ltb n 1000 status.1) in
    ap (λ s. s.now) is ∙ unwrap_now r d ∙ (λ i. unwrap_or (e i) (empty i)) ∙ sym (cond-true _ _ _ test)

-- no phrase
pub phrase_not_there : (n : ℕ) → ¬ (IsStatusCode n) → [] ≡ phrase_of n
unfolding phrase_of
phrase_not_there n none =
    elim (cases_Bool (leb 100 n && ltb n 1000)) [
      | inl inside ↦ absurd (none (status_parts n inside))
      | inr outside ↦ sym (cond-false _ _ _ outside)
    ]

-- a line as httparse's grammar has it
abbrev field_of : Line → Field
field_of line = record { name = line.0; raw = 32 ∷ line.1; end = crlf }

-- the space in front of the value is no part of it
trim_ows-space : (v : List ℕ) → trim_ows (32 ∷ v) ≡ trim_ows v
unfolding trim_ows
trim_ows-space v = refl

fields_are : (lines : List Line) → All IsLine lines → map name_and_value (map field_of lines) ≡ lines
fields_are [] all = refl
fields_are (line ∷ lines) all =
    let here : IsLine line = All-head IsLine line lines all in
    let same : name_and_value (field_of line) ≡ line = λ i. (line.0, (trim_ows-space line.1 ∙ here.2) i) in
    λ i. same i ∷ fields_are lines (All-tail IsLine line lines all) i

fields_valid : (lines : List Line) → All IsLine lines → All IsField (map field_of lines)
fields_valid [] all = All-nil IsField
fields_valid (line ∷ lines) all =
    let here : IsLine line = All-head IsLine line lines all in
    let valid : IsField (field_of line) = record {
      name = here.0;
      raw = All-cons (λ b. IsTrue (is_value_byte b)) 32 line.1 refl here.1;
    } in
    All-cons IsField (field_of line) (map field_of lines) valid (fields_valid lines (All-tail IsLine line lines all))

lines_are : (lines : List Line) → flat_map print_field (map field_of lines) ≡ flat_map line_text lines
lines_are [] = refl
lines_are (line ∷ lines) = λ i. append_assoc line.0 (58 ∷ 32 ∷ line.1) (13 ∷ 10 ∷ []) i ++ lines_are lines i

version_is : (minor : ℕ) → minor ≤ 1 → print_version minor ≡ version_text minor
version_is minor small =
    let digit : minor ≡ minor % 10 = omega arith in
    ap print_version digit

abbrev request_of : List ℕ → List ℕ → ℕ → List Line → RequestHead
request_of method target minor lines = record {
  blank = [];
  method = method;
  target = target;
  minor = minor;
  line_end = crlf;
  fields = map field_of lines;
  last = crlf;
}

-- three parts with a space between them, and what follows
nested : (m t w c s : List ℕ) → (m ++ (32 ∷ t ++ (32 ∷ w ++ c))) ++ s ≡ m ++ 32 ∷ (t ++ 32 ∷ (w ++ (c ++ s)))
nested m t w c s =
    append_assoc m (32 ∷ (t ++ 32 ∷ (w ++ c))) s ∙ ap (λ v. m ++ 32 ∷ v) (append_assoc t (32 ∷ (w ++ c)) s)
    ∙ ap (λ v. m ++ 32 ∷ (t ++ 32 ∷ v)) (append_assoc w c s)

request_regrouped : (m t w c s : List ℕ)
    → ((([] ++ m ++ 32 ∷ t) ++ 32 ∷ w) ++ c) ++ s ≡ (m ++ (32 ∷ t ++ (32 ∷ w ++ c))) ++ s
request_regrouped m t w c s =
    let one_by_one : ((([] ++ m ++ 32 ∷ t) ++ 32 ∷ w) ++ c) ++ s ≡ m ++ 32 ∷ (t ++ 32 ∷ (w ++ (c ++ s))) =
    simp (append_assoc, cons-append) in
    one_by_one ∙ sym (nested m t w c s)

request_text : (method target : List ℕ) (minor : ℕ) (lines : List Line) (body : List ℕ) → minor ≤ 1
    → head_text (record { start = Ask method target minor; lines = lines; body = body })
    ≡ print_request (request_of method target minor lines)
unfolding print_request
request_text method target minor lines body small =
    sym (request_regrouped method target (print_version minor) (13 ∷ 10 ∷ []) (flat_map print_field (map field_of lines) ++ 13 ∷ 10 ∷ [])
    ∙ (λ i. (method ++ (32 ∷ target ++ (32 ∷ version_is minor small i ++ 13 ∷ 10 ∷ []))) ++ (lines_are lines i ++ 13 ∷ 10 ∷ [])))

abbrev reply_of : ℕ → ℕ → List Line → ResponseHead
reply_of status minor lines = record {
  blank = [];
  minor = minor;
  digits = status_digits status;
  reason = Some (phrase_of status);
  line_end = crlf;
  fields = map field_of lines;
  last = crlf;
}

reply_regrouped : (w d p c s : List ℕ)
    → (((([] ++ w) ++ 32 ∷ d) ++ 32 ∷ p) ++ c) ++ s ≡ (w ++ (32 ∷ d ++ (32 ∷ p ++ c))) ++ s
reply_regrouped w d p c s =
    let one_by_one : (((([] ++ w) ++ 32 ∷ d) ++ 32 ∷ p) ++ c) ++ s ≡ w ++ 32 ∷ (d ++ 32 ∷ (p ++ (c ++ s))) =
    simp (append_assoc, cons-append) in
    one_by_one ∙ sym (nested w d p c s)

reply_text : (status minor : ℕ) (lines : List Line) (body : List ℕ) → minor ≤ 1
    → head_text (record { start = Answer status minor; lines = lines; body = body })
    ≡ print_response (reply_of status minor lines)
unfolding print_response
reply_text status minor lines body small =
    sym (reply_regrouped (print_version minor) (status_digits status) (phrase_of status) (13 ∷ 10 ∷ []) (flat_map print_field (map field_of lines) ++ 13 ∷ 10 ∷ [])
    ∙ (λ i. (version_is minor small i ++ (32 ∷ status_digits status ++ (32 ∷ phrase_of status ++ 13 ∷ 10 ∷ []))) ++ (lines_are lines i ++ 13 ∷ 10 ∷ [])))

-- the digit of a number below ten
digit_worth : (d : ℕ) → d < 10 → (digit_value (48 + d) ≡ d) × (is_ascii_digit (48 + d) ≡ true)
digit_worth d small = (grind (arith, nat_tests), grind (arith, nat_tests))

status_worth : (status minor : ℕ) (lines : List Line) → status < 1000 → status_code (reply_of status minor lines) ≡ status
status_worth status minor lines small =
    let a : digit_value (48 + status / 100 % 10) ≡ status / 100 % 10 = (digit_worth (status / 100 % 10) (omega arith)).0 in
    let b : digit_value (48 + status / 10 % 10) ≡ status / 10 % 10 = (digit_worth (status / 10 % 10) (omega arith)).0 in
    let c : digit_value (48 + status % 10) ≡ status % 10 = (digit_worth (status % 10) (omega arith)).0 in
    let value : status_code (reply_of status minor lines) ≡ ((0 * 10 + status / 100 % 10) * 10 + status / 10 % 10) * 10 + status % 10 =
    λ i. ((0 * 10 + a i) * 10 + b i) * 10 + c i in
    value ∙ omega arith

status_valid : (status : ℕ) → (length (status_digits status) ≡ 3) × AllPass is_ascii_digit (status_digits status)
status_valid status =
    let P : ℕ → Type 0 = λ b. IsTrue (is_ascii_digit b) in (
      refl,
      All-cons P (48 + status / 100 % 10) ((48 + status / 10 % 10) ∷ (48 + status % 10) ∷ []) (digit_worth (status / 100 % 10) (omega arith)).1
          (All-cons P (48 + status / 10 % 10) ((48 + status % 10) ∷ []) (digit_worth (status / 10 % 10) (omega arith)).1
          (All-cons P (48 + status % 10) [] (digit_worth (status % 10) (omega arith)).1 (All-nil P))),
    )

-- each phrase is text that a status line may have
abbrev phrases_below : ℕ → Bool
phrases_below zero = true
phrases_below (suc n) = list_all is_value_byte (unwrap_or (reason_phrase n) []) && phrases_below n

phrase_valid : (status : ℕ) → AllPass is_value_byte (phrase_of status)
unfolding phrase_of
phrase_valid status =
    elim (cases_Bool (leb 100 status && ltb status 1000)) [
      | inl inside ↦
          let test = λ (k : ℕ). list_all is_value_byte (unwrap_or (reason_phrase k) []) in
          let below = (Decides-below_and test (λ k. test k ≡ true) phrases_below (λ k. (λ x. x, λ x. x)) refl (λ _. refl) 1000).0 refl
          status (status_parts status inside).1 in
          subst (λ (t : List ℕ). AllPass is_value_byte t) (sym (cond-true _ _ _ inside)) (AllPass-from_list_all is_value_byte _ below)
      | inr outside ↦ subst (λ (t : List ℕ). AllPass is_value_byte t) (sym (cond-false _ _ _ outside)) (All-nil (λ b. IsTrue (is_value_byte b)))
    ]

written_by : (side : Side) (start : Start) (lines : List Line) (body : List ℕ)
    → IsSoundFrame side (record { start = start; lines = lines; body = body })
    → IsFrame side (frame_text (record { start = start; lines = lines; body = body })) (record { start = start; lines = lines; body = body })
written_by Request (Ask method target minor) lines body s = record {
  head = head_text (record { start = Ask method target minor; lines = lines; body = body });
  carried = body;
  bytes_are = refl;
  head_is = record {
    is_head = record {
      head = request_of method target minor lines;
      valid = record {
        method = s.start.0;
        target = (s.start.1.0, s.start.1.1);
        target_text = s.start.1.2;
        minor = s.start.2;
        fields = fields_valid lines s.lines;
      };
      text_is = request_text method target minor lines body s.start.2;
      start_is = refl;
      lines_are = sym (fields_are lines s.lines);
    };
    head_fits = s.head_fits;
    lines_fit = s.lines_fit;
  };
  body = s.body;
}
written_by Request (Answer status minor) lines body s = absurd s.start
written_by Reply (Ask method target minor) lines body s = absurd s.start
written_by Reply (Answer status minor) lines body s = record {
  head = head_text (record { start = Answer status minor; lines = lines; body = body });
  carried = body;
  bytes_are = refl;
  head_is = record {
    is_head = record {
      head = reply_of status minor lines;
      valid = record {
        minor = s.start.1;
        digits = status_valid status;
        reason = phrase_valid status;
        fields = fields_valid lines s.lines;
      };
      text_is = reply_text status minor lines body s.start.1;
      start_is = λ i. Answer (sym (status_worth status minor lines s.start.0) i) minor;
      lines_are = sym (fields_are lines s.lines);
    };
    head_fits = s.head_fits;
    lines_fit = s.lines_fit;
  };
  body = s.body;
}

pub written_is_read : WrittenIsRead
written_is_read side frame s = written_by side frame.start frame.lines frame.body s
