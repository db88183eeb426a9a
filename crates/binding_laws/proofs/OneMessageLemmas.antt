-- The bytes for a request to a URL are its own message, or begin with none.
use Rattle.binding_laws.proofs.Words.{◌≡◌, ℕ, ◌≤◌, true, List, [], ◌∷◌, ◌++◌, length, codes, Option, Some, None, IfSome, refl, sym, ap, subst, ◌∙◌, arith, append_assoc, All, AllByRecursion, decimal}
use Rattle.binding_laws.proofs.Terms.{Op, Create, Retrieve, Update, Notify, Removal, Data, When, head_text, body_of, close_lines, content_lines, content_type, created_type, expiry_field, expiry_lines, expiry_text, host_field, host_of, id_field, id_lines, json_type, length_field, origin_field, origin_lines, request_frame, semicolon, type_field, type_parameter, equals_sign, timestamp}
use Rattle.binding_laws.proofs.Facts.{All-cons, All-nil, AllPass-from_list_all, cond-true, decimal_is_IsNumeral, timestamp_is}
use Rattle.std.specs.Char.{is_ascii_graphic}
use Rattle.std.proofs.lemmas.List.Elements.{All-append}
use Rattle.httparse.specs.Grammar.{AllPass, IsToken, is_token_byte}
use Rattle.m2m_names.proofs.StampTextLemmas.{each_of_timestamp}
use Rattle.primitive_json.specs.Laws.{IsWhenOfKind}
use Rattle.primitive_json.specs.declared.request.RequestParts.{RequestParts}
use Rattle.primitive_json.specs.declared.request.When.TheVariants.{At, Millis}
use Rattle.http_frames.specs.Body.{CarriesBody, Framing, counted, framing_of, framing_of_lengths}
use Rattle.http_frames.specs.Frame.{IsHead, body_limit, head_limit}
use Rattle.http_frames.specs.Lines.{is_same_name}
use Rattle.http_frames.specs.Stream.{HasNoFrame}
use Rattle.http_frames.specs.Text.{IsLine, IsSoundFrame}
use Rattle.http_frames.specs.declared.frame.Frame.{Frame}
use Rattle.http_frames.specs.declared.frame.Side.TheVariants.{Request}
use Rattle.http_frames.proofs.FrameLemmas.{IsHead_unique}
use Rattle.http_frames.proofs.TextLemmas.{written_is_read}
use Rattle.http_binding.specs.Headers.{connection_field}
use Rattle.http_binding.specs.Methods.{method_text}
use Rattle.http_binding.proofs.GraphicLemmas.{Graphic, decimal_graphic, digit_graphic, length_is, line_is, token_is}
use Rattle.http_client_binding.specs.Asking.{caller_lines, ending_lines, request_text, target_text}
use Rattle.http_client_binding.specs.declared.target.Aim.{Aim}
use Rattle.http_client_binding.proofs.UrlLemmas.{host_passes}
use Rattle.binding_laws.specs.OneMessage.{BytesAreTheMessageOrNone, CanStandInHead, FitsAMessage, IsGraphic}
use Rattle.binding_laws.proofs.HeadLemmas.{request_head_is}
use Rattle.binding_laws.proofs.LengthLemmas.{SaysLength, framing_is, length_within}
use Rattle.binding_laws.proofs.LineLemmas.{lines_with}

-- ---- the lines

origin_is : (fr : Option (List ℕ)) → IfSome fr IsGraphic → All IsLine (origin_lines fr)
unfolding is_token_byte
origin_is None h = All-nil IsLine
origin_is (Some s) h =
    All-cons IsLine (origin_field, s) [] (line_is origin_field s refl (AllPass-from_list_all is_ascii_graphic s h)) (All-nil IsLine)

id_is : (rqi : List ℕ) → IsGraphic rqi → All IsLine (id_lines (Some rqi))
unfolding is_token_byte
id_is rqi h =
    All-cons IsLine (id_field, rqi) [] (line_is id_field rqi refl (AllPass-from_list_all is_ascii_graphic rqi h)) (All-nil IsLine)

passes : (bytes : List ℕ) → AllByRecursion Graphic bytes → AllPass is_ascii_graphic bytes
passes [] h = All-nil Graphic
passes (b ∷ bytes) h = All-cons Graphic b bytes h.0 (passes bytes h.1)

when_graphic : (when : When) → IsWhenOfKind when → AllPass is_ascii_graphic (expiry_text when)
when_graphic (At at) h =
    passes (timestamp at) (each_of_timestamp Graphic (λ b low high. digit_graphic b (low, high)) refl refl (timestamp at) at (timestamp_is at h))
when_graphic (Millis n) h = decimal_graphic n

expiry_is : (when : Option When) → IfSome when IsWhenOfKind → All IsLine (expiry_lines when)
unfolding is_token_byte
expiry_is None h = All-nil IsLine
expiry_is (Some when) h =
    All-cons IsLine (expiry_field, expiry_text when) [] (line_is expiry_field (expiry_text when) refl (when_graphic when h)) (All-nil IsLine)

type_graphic : (type : Option ℕ) → AllPass is_ascii_graphic (content_type type)
type_graphic None = AllPass-from_list_all is_ascii_graphic json_type refl
type_graphic (Some n) =
    let front = json_type ++ semicolon ∷ type_parameter ++ equals_sign ∷ [] in
    All-append Graphic front (decimal n) (AllPass-from_list_all is_ascii_graphic front refl) (decimal_graphic n)

content_is : (type : Option ℕ) (content : Option Data) → All IsLine (content_lines type content)
unfolding is_token_byte
content_is type None = All-nil IsLine
content_is type (Some content) =
    All-cons IsLine (type_field, content_type type) [] (line_is type_field (content_type type) refl (type_graphic type)) (All-nil IsLine)

ending_is : (n : ℕ) → All IsLine ((length_field, decimal n) ∷ close_lines true)
unfolding is_token_byte
ending_is n =
    let value = codes "close" in
    All-cons IsLine (length_field, decimal n) (close_lines true) (line_is length_field (decimal n) refl (decimal_graphic n))
    (All-cons IsLine (connection_field, value) [] (line_is connection_field value refl (AllPass-from_list_all is_ascii_graphic value refl)) (All-nil IsLine))

lines_are : (r : RequestParts) (url : List ℕ) (aim : Aim) → CanStandInHead r url aim → All IsLine (caller_lines r url ++ ending_lines r)
unfolding is_token_byte
lines_are r url aim h =
    let id = id_lines (Some r.rqi) in
    let behind = id ++ expiry_lines r.rqet in
    let last = (length_field, decimal (length (body_of r.pc))) ∷ close_lines true in
    All-append IsLine (caller_lines r url) (ending_lines r)
    (All-cons IsLine (host_field, host_of url) (origin_lines r.fr ++ behind) (line_is host_field (host_of url) refl (host_passes url h.is_url))
    (All-append IsLine (origin_lines r.fr) behind (origin_is r.fr h.fr)
    (All-append IsLine id (expiry_lines r.rqet) (id_is r.rqi h.rqi) (expiry_is r.rqet h.rqet))))
    (All-append IsLine (content_lines (created_type r.op r.ty) r.pc) last (content_is (created_type r.op r.ty) r.pc) (ending_is (length (body_of r.pc))))

-- how many they are, and what they say of the body
says_length : (host : List ℕ) (fr : Option (List ℕ)) (id : List ℕ) (when : Option When) (type : Option ℕ) (content : Option Data) (size : List ℕ) → SaysLength size (lines_with host fr id when type content size)
unfolding is_same_name
says_length host None id None type None size = record { count = omega arith; coding = refl; size_is = refl }
says_length host None id None type (Some content) size = record { count = omega arith; coding = refl; size_is = refl }
says_length host None id (Some when) type None size = record { count = omega arith; coding = refl; size_is = refl }
says_length host None id (Some when) type (Some content) size = record { count = omega arith; coding = refl; size_is = refl }
says_length host (Some fr) id None type None size = record { count = omega arith; coding = refl; size_is = refl }
says_length host (Some fr) id None type (Some content) size = record { count = omega arith; coding = refl; size_is = refl }
says_length host (Some fr) id (Some when) type None size = record { count = omega arith; coding = refl; size_is = refl }
says_length host (Some fr) id (Some when) type (Some content) size = record { count = omega arith; coding = refl; size_is = refl }

method_token : (op : Op) → IsToken (method_text op)
unfolding is_token_byte
method_token Create = token_is (codes "POST") refl
method_token Retrieve = token_is (codes "GET") refl
method_token Update = token_is (codes "PUT") refl
method_token Removal = token_is (codes "DELETE") refl
method_token Notify = token_is (codes "POST") refl

-- ---- the message

module _ (r : RequestParts) (url : List ℕ) (aim : Aim) (can : CanStandInHead r url aim) where
  abbrev frame : Frame
  frame = request_frame r url aim

  abbrev size : ℕ
  size = length (body_of r.pc)

  says : SaysLength (decimal size) frame.lines
  says = says_length (host_of url) r.fr r.rqi r.rqet (created_type r.op r.ty) r.pc (decimal size)

  sound : FitsAMessage r url aim → IsSoundFrame Request frame
  sound fits =
      let framing : framing_of frame.start frame.lines ≡ counted size =
      framing_is frame.start (decimal size) frame.lines says ∙ cond-true _ _ _ (length_is size (omega (arith, fits.body)))
      ∙ ap counted (decimal_is_IsNumeral size (omega (arith, fits.body))).1 in
      record {
        start = (method_token r.op, can.target, omega arith);
        lines = lines_are r url aim can;
        head_fits = fits.head;
        lines_fit = omega (arith, says.count);
        body = subst (λ (f : Framing). CarriesBody (body_limit Request) f frame.body frame.body) (sym framing) (refl, refl, fits.body);
      }

  own_head : IsHead Request (head_text frame) frame.start frame.lines
  own_head = request_head_is (method_text r.op) (target_text r url aim) frame.lines frame.body (method_token r.op) can.target (lines_are r url aim can)

  none : ¬ (FitsAMessage r url aim) → HasNoFrame Request (request_text r url aim)
  none long other rest begins =
      let is = begins.is_frame in
      let whole : head_text frame ++ frame.body ≡ is.head ++ (is.carried ++ rest) =
      begins.stream_is ∙ ap (λ (t : List ℕ). t ++ rest) is.bytes_are ∙ append_assoc is.head is.carried rest in
      let same = IsHead_unique Request (head_text frame) is.head frame.start other.start frame.lines other.lines frame.body (is.carried ++ rest) own_head is.head_is.is_head whole in
      let framing : framing_of other.start other.lines ≡ framing_of_lengths (decimal size ∷ []) =
      (λ i. framing_of (sym same.0 i) (sym same.1 i)) ∙ framing_is frame.start (decimal size) frame.lines says in
      long (record {
        head = subst (λ (t : List ℕ). length t ≤ head_limit) (sym same.2) is.head_is.head_fits;
        body = length_within size (body_limit Request) is.carried other.body (subst (λ (f : Framing). CarriesBody (body_limit Request) f is.carried other.body) framing is.body);
      })

pub message_or_none : BytesAreTheMessageOrNone
message_or_none r url aim can = (λ fits. written_is_read Request (request_frame r url aim) (sound r url aim can fits), none r url aim can)
