-- The frame of a reply says the reply.
use Rattle.std.proofs.Common.{◌≡◌, ℕ, ◌+◌, ◌/◌, ◌%◌, ◌<◌, ◌≤◌, ◌^◌, ◌==◌, Bool, true, false, List, [], ◌∷◌, ◌++◌, length, codes, Option, Some, None, Ok, Err, IfSome, decimal, refl, ap, ◌∙◌, arith}
use Rattle.std.specs.Bool.{if◌then◌else◌}
use Rattle.std.specs.Prelude.{ℤ, pos, negsuc}
use lib.Signed.{mag}
use Rattle.std.specs.Fmt.{signed_decimal}
use Rattle.std.specs.Char.{is_ascii_digit}
use Rattle.std.specs.List.{list_all}
use Rattle.std.specs.Option.{option_map_or}
use Rattle.std.specs.Result.{result_unwrap_or}
use Rattle.std.specs.Str.Parse.{digits_value}
use Rattle.std.proofs.lemmas.Bool.{and_from, lt-ltb, false≢true}
use Rattle.std.proofs.lemmas.Fmt.{decimal_nonempty, decimal_step, decimal_digit, digits_decimal, digits_value-decimal}
use Rattle.m2m_names.specs.StatusCodes.{rsc_row, rsc_of_number}
use Rattle.m2m_names.specs.declared.codes.Rsc.{Rsc}
use Rattle.m2m_names.proofs.StatusLemmas.{number_in_range, rsc_again}
use Rattle.m2m_value.specs.Data.{Data, null, boolean, number, text, list, object, depth}
use Rattle.m2m_value.specs.Reading.{reading_depth}
use Rattle.m2m_value.specs.Sound.{IsSound}
use Rattle.m2m_value.specs.Spelling.{text_of}
use Rattle.m2m_value.proofs.RoundTrip.{reading-text_of}
use Rattle.primitive_json.specs.Bounds.{is_request_id}
use Rattle.primitive_json.specs.declared.reply.ReplyParts.{ReplyParts}
use Rattle.m2m_names.proofs.NumeralLemmas.{own}
use Rattle.http_frames.specs.declared.frame.Start.TheVariants.{Answer}
use Rattle.http_frames.specs.declared.frame.Frame.{Frame}
use Rattle.http_frames.specs.Lines.{is_same_name, values_named}
use Rattle.http_target.specs.declared.fault.BindFault.{BindFault}
use Rattle.http_target.specs.declared.fault.BindFault.TheVariants as bind
use Rattle.http_binding.specs.Binding.{value_in, echo_of}
use Rattle.http_target.specs.Chain.{and_then}
use Rattle.http_binding.specs.Headers.{code_field, length_field, is_some_text}
use Rattle.http_client_binding.specs.Laws.{IsTold}
use Rattle.http_client_binding.specs.ReplyReading.{is_code_text, code_spelled, lone_code, code_in, some_content, content_said, reply_in}
use Rattle.http_binding.specs.Replying.{body_of, content_lines, id_lines, close_lines, reply_lines, reply_frame, written_minor}

then_is : {T : Type 0} (test : Bool) (x y : T) → test ≡ true → (if test then x else y) ≡ x
then_is true x y h = refl
then_is false x y h = absurd (false≢true h)

-- ---- the lines

code_named : (code size : List ℕ) (id : Option (List ℕ)) (content : Option Data) (close : Bool)
    → values_named code_field ((code_field, code) ∷ (id_lines id ++ (content_lines None content ++ ((length_field, size) ∷ close_lines close)))) ≡ code ∷ []
unfolding is_same_name
code_named code size None None false = refl
code_named code size None None true = refl
code_named code size None (Some d) false = refl
code_named code size None (Some d) true = refl
code_named code size (Some id) None false = refl
code_named code size (Some id) None true = refl
code_named code size (Some id) (Some d) false = refl
code_named code size (Some id) (Some d) true = refl

-- ---- the status code

four_digits : (n : ℕ) → 1000 ≤ n → n < 10000 → length (decimal n) ≡ 4
four_digits n low high =
    ap length (decimal_step n (omega arith) (omega arith)
    ∙ ap (λ t. t ++ (48 + n % 10) ∷ []) (decimal_step (n / 10) (omega arith) (omega arith)
    ∙ ap (λ t. t ++ (48 + n / 10 % 10) ∷ []) (decimal_step (n / 10 / 10) (omega arith) (omega arith)
    ∙ ap (λ t. t ++ (48 + n / 10 / 10 % 10) ∷ []) (decimal_digit (n / 10 / 10 / 10) (omega arith)))))

code_digits : (n : ℕ) → 1000 ≤ n → n < 10000 → is_code_text (decimal n) ≡ true
code_digits n low high =
    and_from (length (decimal n) == 4) (list_all is_ascii_digit (decimal n)) (ap (λ k. k == 4) (four_digits n low high)) (digits_decimal own n (omega arith))

spelled : (n : ℕ) → 1000 ≤ n → n < 10000 → code_spelled (decimal n) ≡ rsc_of_number n
spelled n low high =
    then_is (is_code_text (decimal n)) (rsc_of_number (digits_value 10 (decimal n))) None (code_digits n low high)
    ∙ ap rsc_of_number (digits_value-decimal own n (omega arith))

code_spelled_again : (rsc : Rsc) → code_spelled (decimal (rsc_row rsc).number) ≡ Some rsc
code_spelled_again rsc =
    let range = number_in_range rsc in
    spelled (rsc_row rsc).number range.0 (omega (arith, range.1)) ∙ rsc_again rsc

code_told : (reply : ReplyParts) (close : Bool) → code_in (reply_lines reply close) ≡ Ok reply.rsc
code_told reply close =
    let named = code_named (decimal (rsc_row reply.rsc).number) (decimal (length (body_of reply.pc))) reply.rqi reply.pc close in
    ap (λ values. option_map_or (λ code. Ok code) (lone_code values) (Err (bind.Header code_field))) named
    ∙ ap (λ o. option_map_or (λ code. Ok code) o (Err (bind.Header code_field))) (code_spelled_again reply.rsc)

-- ---- the identifier

kept : (is : Bool) (id : List ℕ) (fault : BindFault) → is ≡ true → result_unwrap_or (if is then Ok (Some id) else Err fault) None ≡ Some id
kept true id fault h = refl
kept false id fault h = absurd (false≢true h)

abbrev frame_with : ℕ → List ℕ → Option (List ℕ) → Option Data → List ℕ → Bool → List ℕ → Frame
frame_with http code id content size close body = record {
  start = Answer http written_minor;
  lines = (code_field, code) ∷ (id_lines id ++ (content_lines None content ++ ((length_field, size) ∷ close_lines close)));
  body = body;
}

echoed : (http : ℕ) (code : List ℕ) (id : Option (List ℕ)) (content : Option Data) (size : List ℕ) (close : Bool) (body : List ℕ)
    → IfSome id (λ s. is_request_id s ≡ true) → echo_of (frame_with http code id content size close body) ≡ id
unfolding is_same_name
echoed http code None None size false body h = refl
echoed http code None None size true body h = refl
echoed http code None (Some d) size false body h = refl
echoed http code None (Some d) size true body h = refl
echoed http code (Some id) None size false body h = kept (is_request_id id) id (bind.Header (codes "X-M2M-RI")) h
echoed http code (Some id) None size true body h = kept (is_request_id id) id (bind.Header (codes "X-M2M-RI")) h
echoed http code (Some id) (Some d) size false body h = kept (is_request_id id) id (bind.Header (codes "X-M2M-RI")) h
echoed http code (Some id) (Some d) size true body h = kept (is_request_id id) id (bind.Header (codes "X-M2M-RI")) h

-- ---- the content

number_some : (z : ℤ) → mag z < 2 ^ 63 → is_some_text (signed_decimal z) ≡ true
number_some (pos n) h = let small : n < 2 ^ 63 = h in lt-ltb 0 (length (decimal n)) (decimal_nonempty n (omega arith))
number_some (negsuc n) h = lt-ltb 0 (length (signed_decimal (negsuc n))) (omega arith)

text_some : (d : Data) → IsSound d → is_some_text (text_of d) ≡ true
text_some null h = refl
text_some (boolean true) h = refl
text_some (boolean false) h = refl
text_some (number z) h = number_some z h
text_some (text s) h = lt-ltb 0 (length (text_of (text s))) (omega arith)
text_some (list es) h = lt-ltb 0 (length (text_of (list es))) (omega arith)
text_some (object ps) h = lt-ltb 0 (length (text_of (object ps))) (omega arith)

content_told : (content : Option Data) → IfSome content (λ d. IsSound d × (depth d ≤ reading_depth)) → content_said (body_of content) ≡ Ok content
content_told None h = refl
content_told (Some d) h =
    let back = reading-text_of d h.0 h.1 in
    then_is (is_some_text (text_of d)) (some_content (text_of d)) (Ok None) (text_some d h.0)
    ∙ ap (λ r. and_then (value_in r) (λ value. Ok (Some value))) back

pub reply_said : (reply : ReplyParts) (close : Bool) → IsTold reply → reply_in (reply_frame reply close) ≡ Ok reply
reply_said reply close h =
    ap (λ r. and_then r (λ code. and_then (content_said (body_of reply.pc)) (λ content. Ok (record { rsc = code; rqi = echo_of (reply_frame reply close); pc = content })))) (code_told reply close)
    ∙ ap (λ r. and_then r (λ content. Ok (record { rsc = reply.rsc; rqi = echo_of (reply_frame reply close); pc = content }))) (content_told reply.pc h.pc)
    ∙ ap (λ id. Ok (record { rsc = reply.rsc; rqi = id; pc = reply.pc })) (echoed (rsc_row reply.rsc).http (decimal (rsc_row reply.rsc).number) reply.rqi reply.pc (decimal (length (body_of reply.pc))) close (body_of reply.pc) h.rqi)
