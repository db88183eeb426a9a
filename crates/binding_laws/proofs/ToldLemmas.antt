-- The bytes of a reply say none where its text is too long for a message, or its content too deep to be read.
use Rattle.binding_laws.proofs.Words.{◌≡◌, ℕ, ◌<◌, ◌≤◌, ◌^◌, Bool, true, false, List, [], ◌∷◌, ◌++◌, length, codes, Option, Some, None, IfSome, IsTrue, refl, sym, ap, subst, ◌∙◌, arith, append-nil, All, Ok, Err, Result, ℤ, pos, decimal, signed_decimal}
use Rattle.binding_laws.proofs.Terms.{Data, null, boolean, number, text, list, object, depth, Line, head_text, and_then, body_of, close_lines, content_lines, id_field, id_lines, is_some_text, length_field, value_in}
use Rattle.binding_laws.proofs.Facts.{All-cons, All-nil, AllPass-from_list_all, cond-true, false≢true, lt-ltb}
use Rattle.std.specs.Char.{is_ascii_graphic}
use Rattle.std.specs.Prelude.{is_ok, negsuc}
use Rattle.std.proofs.lemmas.Fmt.{decimal_nonempty}
use Rattle.std.proofs.lemmas.List.Elements.{All-append}
use Rattle.httparse.specs.Grammar.{is_token_byte}
use Rattle.m2m_names.specs.StatusCodes.{rsc_row}
use Rattle.m2m_names.proofs.NameLemmas.{printable_parts}
use Rattle.m2m_names.proofs.StatusLemmas.{http_in_range}
use Rattle.m2m_value.specs.Reading.{reading, reading_depth}
use Rattle.m2m_value.specs.Sound.{IsSound}
use Rattle.m2m_value.specs.Spelling.{text_of}
use Rattle.m2m_value.specs.declared.fault.ValFault.{ValFault}
use Rattle.primitive_json.specs.Bounds.{is_request_id, request_id_limit}
use Rattle.primitive_json.specs.declared.reply.ReplyParts.{ReplyParts}
use Rattle.http_frames.specs.Body.{CarriesBody, Framing, framing_of, framing_of_lengths}
use Rattle.http_frames.specs.Frame.{IsFrame, IsHead, body_limit}
use Rattle.http_frames.specs.Lines.{is_same_name}
use Rattle.http_frames.specs.Text.{IsLine}
use Rattle.http_frames.specs.declared.frame.Frame.{Frame}
use Rattle.http_frames.specs.declared.frame.Side.TheVariants.{Reply}
use Rattle.http_frames.proofs.FrameLemmas.{IsHead_unique}
use Rattle.http_target.proofs.QueryLemmas.{reads}
use Rattle.http_binding.specs.Headers.{code_field, connection_field, type_field}
use Rattle.http_binding.specs.MediaTypes.{json_type}
use Rattle.http_binding.specs.Replying.{reply_frame, reply_lines, reply_text}
use Rattle.http_binding.proofs.GraphicLemmas.{decimal_graphic, line_is}
use Rattle.http_client_binding.specs.ReplyReading.{code_in, content_said, reply_in}
use Rattle.binding_laws.specs.Telling.{CanBeTold, IsSoundTold, WhatCanNotBeToldSaysNone}
use Rattle.binding_laws.proofs.DeepLemmas.{shallow_own}
use Rattle.binding_laws.proofs.HeadLemmas.{reply_head_is}
use Rattle.binding_laws.proofs.LengthLemmas.{SaysLength, body_carried, framing_is, length_within}
use lib.Signed.{mag}

-- ---- the lines

id_is : (id : Option (List ℕ)) → IfSome id (λ s. IsTrue (is_request_id s)) → All IsLine (id_lines id)
unfolding is_token_byte
id_is None h = All-nil IsLine
id_is (Some s) h =
    All-cons IsLine (id_field, s) [] (line_is id_field s refl (AllPass-from_list_all is_ascii_graphic s (printable_parts request_id_limit s h).graphic)) (All-nil IsLine)

type_is : (content : Option Data) → All IsLine (content_lines None content)
unfolding is_token_byte
type_is None = All-nil IsLine
type_is (Some d) =
    All-cons IsLine (type_field, json_type) [] (line_is type_field json_type refl (AllPass-from_list_all is_ascii_graphic json_type refl)) (All-nil IsLine)

close_is : (close : Bool) → All IsLine (close_lines close)
unfolding is_token_byte
close_is false = All-nil IsLine
close_is true =
    let value = codes "close" in
    All-cons IsLine (connection_field, value) [] (line_is connection_field value refl (AllPass-from_list_all is_ascii_graphic value refl)) (All-nil IsLine)

lines_are : (reply : ReplyParts) (close : Bool) → IsSoundTold reply → All IsLine (reply_lines reply close)
unfolding is_token_byte
lines_are reply close h =
    let number = (rsc_row reply.rsc).number in
    let size = length (body_of reply.pc) in
    let last = (length_field, decimal size) ∷ close_lines close in
    All-cons IsLine (code_field, decimal number) (id_lines reply.rqi ++ (content_lines None reply.pc ++ last)) (line_is code_field (decimal number) refl (decimal_graphic number))
    (All-append IsLine (id_lines reply.rqi) (content_lines None reply.pc ++ last) (id_is reply.rqi h.rqi)
    (All-append IsLine (content_lines None reply.pc) last (type_is reply.pc)
    (All-cons IsLine (length_field, decimal size) (close_lines close) (line_is length_field (decimal size) refl (decimal_graphic size)) (close_is close))))

-- how many they are, and what they say of the body
abbrev lines_with : List ℕ → Option (List ℕ) → Option Data → List ℕ → Bool → List Line
lines_with code id content size close =
    (code_field, code) ∷ (id_lines id ++ (content_lines None content ++ ((length_field, size) ∷ close_lines close)))

says_length : (code : List ℕ) (id : Option (List ℕ)) (content : Option Data) (size : List ℕ) (close : Bool) → SaysLength size (lines_with code id content size close)
unfolding is_same_name
says_length code None None size false = record { count = omega arith; coding = refl; size_is = refl }
says_length code None None size true = record { count = omega arith; coding = refl; size_is = refl }
says_length code None (Some d) size false = record { count = omega arith; coding = refl; size_is = refl }
says_length code None (Some d) size true = record { count = omega arith; coding = refl; size_is = refl }
says_length code (Some id) None size false = record { count = omega arith; coding = refl; size_is = refl }
says_length code (Some id) None size true = record { count = omega arith; coding = refl; size_is = refl }
says_length code (Some id) (Some d) size false = record { count = omega arith; coding = refl; size_is = refl }
says_length code (Some id) (Some d) size true = record { count = omega arith; coding = refl; size_is = refl }

-- ---- the content

number_some : (z : ℤ) → mag z < 2 ^ 63 → is_some_text (signed_decimal z) ≡ true
number_some (pos n) h = let small : n < 2 ^ 63 = h in lt-ltb 0 (length (decimal n)) (decimal_nonempty n (omega arith))
number_some (negsuc n) h = lt-ltb 0 (length (signed_decimal (negsuc n))) (omega arith)

text_some : (d : Data) → IsSound d → is_some_text (text_of d) ≡ true
text_some null h = refl
text_some (boolean true) h = refl
text_some (boolean false) h = refl
text_some (number z) h = number_some z h
text_some (text s) h = lt-ltb 0 (length (text_of (text s))) (omega arith)
text_some (list es) h = lt-ltb 0 (length (text_of (list es))) (omega arith)
text_some (object ps) h = lt-ltb 0 (length (text_of (object ps))) (omega arith)

value_shallow : (d : Data) (value : Result Data ValFault) (content : Option Data) → IsSound d → reading (text_of d) ≡ value
    → and_then (value_in value) (λ v. Ok (Some v)) ≡ Ok content → depth d ≤ reading_depth
value_shallow d (Ok e) content sound is told = shallow_own d sound e is
value_shallow d (Err why) content sound is told = absurd (false≢true (ap is_ok told))

content_shallow : (pc content : Option Data) → IfSome pc IsSound → content_said (body_of pc) ≡ Ok content → IfSome pc (λ d. depth d ≤ reading_depth)
content_shallow None content sound told = tt
content_shallow (Some d) content sound told =
    value_shallow d (reading (text_of d)) content sound refl (sym (cond-true _ _ _ (text_some d sound)) ∙ told)

-- ---- the message

module _ (reply : ReplyParts) (close : Bool) (sound : IsSoundTold reply) where
  abbrev own : Frame
  own = reply_frame reply close

  abbrev size : ℕ
  size = length (body_of reply.pc)

  says : SaysLength (decimal size) own.lines
  says = says_length (decimal (rsc_row reply.rsc).number) reply.rqi reply.pc (decimal size) close

  own_head : IsHead Reply (head_text own) own.start own.lines
  own_head = reply_head_is (rsc_row reply.rsc).http own.lines own.body (omega (arith, (http_in_range reply.rsc).1)) (lines_are reply close sound)

  -- a message that these bytes are is its own
  record IsOwn (frame : Frame) : Type 0 where
    same : frame ≡ own
    within : size ≤ body_limit Reply

  is_own : (frame : Frame) → IsFrame Reply (reply_text reply close) frame → IsOwn frame
  is_own frame is =
      let whole : head_text own ++ own.body ≡ is.head ++ (is.carried ++ []) =
      is.bytes_are ∙ ap (λ (t : List ℕ). is.head ++ t) (sym (append-nil is.carried)) in
      let same = IsHead_unique Reply (head_text own) is.head own.start frame.start own.lines frame.lines own.body (is.carried ++ []) own_head is.head_is.is_head whole in
      let framing : framing_of frame.start frame.lines ≡ framing_of_lengths (decimal size ∷ []) =
      (λ i. framing_of (sym same.0 i) (sym same.1 i)) ∙ framing_is own.start (decimal size) own.lines says in
      let carries : CarriesBody (body_limit Reply) (framing_of_lengths (decimal size ∷ [])) is.carried frame.body =
      subst (λ (f : Framing). CarriesBody (body_limit Reply) f is.carried frame.body) framing is.body in
      let body : frame.body ≡ own.body =
      sym (body_carried (decimal size) (body_limit Reply) is.carried frame.body carries) ∙ sym (same.3 ∙ append-nil is.carried) in
      record {
        same = λ i. record { start = sym same.0 i; lines = sym same.1 i; body = body i };
        within = length_within size (body_limit Reply) is.carried frame.body carries;
      }

  says_none : (frame : Frame) (said : ReplyParts) → ¬ (CanBeTold reply) → IsFrame Reply (reply_text reply close) frame → ¬ (reply_in frame ≡ Ok said)
  says_none frame said untold is told =
      let one = is_own frame is in
      let here : reply_in own ≡ Ok said = subst (λ (f : Frame). reply_in f ≡ Ok said) one.same told in
      let code = reads (code_in own.lines) _ said here in
      let content = reads (content_said own.body) _ said code.rest in
      untold (record { depth = content_shallow reply.pc content.first sound.pc content.read; body = one.within })

pub none_told : WhatCanNotBeToldSaysNone
none_told reply said close frame sound untold is = says_none reply close sound frame said untold is
