-- The frame of a request is sound, so that it is read back from its text.
use Rattle.std.proofs.Common.{◌≡◌, ℕ, ◌+◌, ◌<◌, ◌≤◌, ◌^◌, true, List, [], ◌∷◌, ◌++◌, length, codes, Option, Some, None, IsTrue, IfSome, refl, sym, ap, subst, ◌∙◌, arith}
use Rattle.std.specs.Prelude.{All}
use Rattle.std.specs.Fmt.{decimal}
use Rattle.std.specs.Char.{is_ascii_graphic}
use Rattle.std.specs.List.{AllByRecursion}
use Rattle.std.proofs.lemmas.Bool.{cond-true}
use Rattle.std.proofs.lemmas.Fmt.{decimal_is_IsNumeral}
use Rattle.std.proofs.lemmas.List.Elements.{All-nil, All-cons, All-append}
use Rattle.std.proofs.lemmas.List.Sums.{AllPass-from_list_all}
use Rattle.httparse.specs.Grammar.{AllPass, IsToken, is_token_byte}
use Rattle.m2m_names.specs.Name.{is_originator, originator_limit}
use Rattle.m2m_names.specs.Stamps.{timestamp, IsTimestamp}
use Rattle.m2m_names.specs.declared.operations.Op.{Op}
use Rattle.m2m_names.specs.declared.operations.Op.TheVariants.{Create, Retrieve, Update, Notify, Delete as Removal}
use Rattle.m2m_names.proofs.StampReadingLemmas.{timestamp_is}
use Rattle.m2m_names.proofs.StampTextLemmas.{each_of_timestamp}
use Rattle.m2m_value.specs.Data.{Data}
use Rattle.primitive_json.specs.Bounds.{is_request_id, request_id_limit}
use Rattle.primitive_json.specs.Laws.{IsWhenOfKind}
use Rattle.primitive_json.proofs.FormLemmas.{kinds_apart}
use Rattle.primitive_json.specs.Writing.{expiry_text}
use Rattle.primitive_json.specs.declared.request.RequestParts.{RequestParts}
use Rattle.primitive_json.specs.declared.request.When.{When}
use Rattle.primitive_json.specs.declared.request.When.TheVariants.{At, Millis}
use Rattle.http_frames.specs.declared.frame.Side.TheVariants.{Request}
use Rattle.http_frames.specs.declared.frame.Start.{Start}
use Rattle.http_frames.specs.declared.frame.Start.TheVariants.{Ask}
use Rattle.http_frames.specs.Lines.{Line, is_same_name, values_named}
use Rattle.http_frames.specs.Body.{transfer_field, counted, minor_of, framing_of, framing_of_values, CarriesBody}
use Rattle.http_frames.specs.Frame.{body_limit}
use Rattle.http_frames.specs.Stream.{BeginsWithFrame}
use Rattle.http_frames.specs.Text.{frame_text, IsLine, IsSoundFrame}
use Rattle.http_frames.proofs.TextLemmas.{written_is_read}
use Rattle.http_binding.specs.Binding.{created_type}
use Rattle.http_binding.specs.Headers.{origin_field, id_field, expiry_field, type_field, length_field, connection_field}
use Rattle.http_binding.specs.MediaTypes.{json_type, semicolon, type_parameter, equals_sign}
use Rattle.http_binding.specs.Methods.{method_text}
use Rattle.http_binding.specs.Replying.{body_of, content_type, content_lines, id_lines, close_lines, written_minor}
use Rattle.http_binding.proofs.GraphicLemmas.{Graphic, digit_graphic, decimal_graphic, length_is, token_is, line_is}
use Rattle.http_client_binding.specs.declared.target.Aim.{Aim}
use Rattle.http_client_binding.specs.Asking.{target_text, host_field, origin_lines, expiry_lines, caller_lines, ending_lines, request_frame}
use Rattle.http_client_binding.specs.TargetWriting.{host_of}
use Rattle.http_client_binding.specs.Laws.{IsSendable}
use Rattle.http_client_binding.proofs.UrlLemmas.{host_passes}
use Rattle.m2m_names.proofs.NameLemmas.{printable_parts}

-- ---- timestamps

passes : (bytes : List ℕ) → AllByRecursion Graphic bytes → AllPass is_ascii_graphic bytes
passes [] h = All-nil Graphic
passes (b ∷ bytes) h = All-cons Graphic b bytes h.0 (passes bytes h.1)

text_graphic : (text : List ℕ) (at : ℕ) → IsTimestamp text at → AllPass is_ascii_graphic text
text_graphic text at h = passes text (each_of_timestamp Graphic (λ b low high. digit_graphic b (low, high)) refl refl text at h)

-- ---- the lines

origin_is : (fr : Option (List ℕ)) → IfSome fr (λ s. IsTrue (is_originator s)) → All IsLine (origin_lines fr)
unfolding is_token_byte
origin_is None h = All-nil IsLine
origin_is (Some s) h =
    let all = (printable_parts originator_limit s h).graphic in
    All-cons IsLine (origin_field, s) [] (line_is origin_field s refl (AllPass-from_list_all is_ascii_graphic s all)) (All-nil IsLine)

id_is : (rqi : List ℕ) → IsTrue (is_request_id rqi) → All IsLine (id_lines (Some rqi))
unfolding is_token_byte
id_is rqi h =
    let all = (printable_parts request_id_limit rqi h).graphic in
    All-cons IsLine (id_field, rqi) [] (line_is (id_field) rqi refl (AllPass-from_list_all is_ascii_graphic rqi all)) (All-nil IsLine)

expiry_graphic : (when : When) → IsWhenOfKind when → AllPass is_ascii_graphic (expiry_text when)
expiry_graphic (At at) h = text_graphic (timestamp at) at (timestamp_is at h)
expiry_graphic (Millis n) h = decimal_graphic n

expiry_is : (when : Option When) → IfSome when IsWhenOfKind → All IsLine (expiry_lines when)
unfolding is_token_byte
expiry_is None h = All-nil IsLine
expiry_is (Some when) h =
    All-cons IsLine (expiry_field, expiry_text when) [] (line_is (expiry_field) (expiry_text when) refl (expiry_graphic when h)) (All-nil IsLine)

type_graphic : (type : Option ℕ) → AllPass is_ascii_graphic (content_type type)
type_graphic None = AllPass-from_list_all is_ascii_graphic json_type refl
type_graphic (Some n) =
    let front = json_type ++ semicolon ∷ type_parameter ++ equals_sign ∷ [] in
    All-append Graphic front (decimal n) (AllPass-from_list_all is_ascii_graphic front refl) (decimal_graphic n)

content_is : (type : Option ℕ) (content : Option Data) → All IsLine (content_lines type content)
unfolding is_token_byte
content_is type None = All-nil IsLine
content_is type (Some content) =
    All-cons IsLine (type_field, content_type type) [] (line_is type_field (content_type type) refl (type_graphic type)) (All-nil IsLine)

ending_is : (n : ℕ) → n < 10 ^ 7 → All IsLine ((length_field, decimal n) ∷ close_lines true)
unfolding is_token_byte
ending_is n small =
    let value = codes "close" in
    All-cons IsLine (length_field, decimal n) (close_lines true) (line_is length_field (decimal n) refl (decimal_graphic n))
    (All-cons IsLine (connection_field, value) [] (line_is connection_field value refl (AllPass-from_list_all is_ascii_graphic value refl)) (All-nil IsLine))

lines_are : (r : RequestParts) (url : List ℕ) (aim : Aim) → IsSendable r url aim → All IsLine (caller_lines r url ++ ending_lines r)
unfolding is_token_byte
lines_are r url aim h =
    let kinds = kinds_apart r h.kinds in
    let id = id_lines (Some r.rqi) in
    let behind = id ++ expiry_lines r.rqet in
    let last = (length_field, decimal (length (body_of r.pc))) ∷ close_lines true in
    All-append IsLine (caller_lines r url) (ending_lines r)
    (All-cons IsLine (host_field, host_of url) (origin_lines r.fr ++ behind) (line_is host_field (host_of url) refl (host_passes url h.is_url))
    (All-append IsLine (origin_lines r.fr) behind (origin_is r.fr h.kinds.fr)
    (All-append IsLine id (expiry_lines r.rqet) (id_is r.rqi kinds.rqi) (expiry_is r.rqet h.kinds.rqet))))
    (All-append IsLine (content_lines (created_type r.op r.ty) r.pc) last (content_is (created_type r.op r.ty) r.pc) (ending_is (length (body_of r.pc)) (omega (arith, h.body))))

-- how many they are, and what they say of the body
abbrev lines_with : List ℕ → Option (List ℕ) → List ℕ → Option When → Option ℕ → Option Data → List ℕ → List Line
lines_with host fr id when type content size =
    ((host_field, host) ∷ (origin_lines fr ++ (id_lines (Some id) ++ expiry_lines when)))
    ++ (content_lines type content ++ ((length_field, size) ∷ close_lines true))

record Announces (size : List ℕ) (lines : List Line) : Type 0 where
  count : length lines ≤ 7
  coding : values_named transfer_field lines ≡ []
  size_is : values_named length_field lines ≡ size ∷ []

announces : (host : List ℕ) (fr : Option (List ℕ)) (id : List ℕ) (when : Option When) (type : Option ℕ) (content : Option Data) (size : List ℕ) → Announces size (lines_with host fr id when type content size)
unfolding is_same_name
announces host None id None type None size = record { count = omega arith; coding = refl; size_is = refl }
announces host None id None type (Some content) size = record { count = omega arith; coding = refl; size_is = refl }
announces host None id (Some when) type None size = record { count = omega arith; coding = refl; size_is = refl }
announces host None id (Some when) type (Some content) size = record { count = omega arith; coding = refl; size_is = refl }
announces host (Some fr) id None type None size = record { count = omega arith; coding = refl; size_is = refl }
announces host (Some fr) id None type (Some content) size = record { count = omega arith; coding = refl; size_is = refl }
announces host (Some fr) id (Some when) type None size = record { count = omega arith; coding = refl; size_is = refl }
announces host (Some fr) id (Some when) type (Some content) size = record { count = omega arith; coding = refl; size_is = refl }

framing_is : (start : Start) (n : ℕ) (lines : List Line) → n < 10 ^ 7 → Announces (decimal n) lines → framing_of start lines ≡ counted n
framing_is start n lines small a =
    (λ i. framing_of_values (minor_of start) (a.coding i) (a.size_is i)) ∙ cond-true _ _ _ (length_is n small) ∙ ap counted (decimal_is_IsNumeral n (omega arith)).1

-- ---- the frame

method_token : (op : Op) → IsToken (method_text op)
unfolding is_token_byte
method_token Create = token_is (codes "POST") refl
method_token Retrieve = token_is (codes "GET") refl
method_token Update = token_is (codes "PUT") refl
method_token Removal = token_is (codes "DELETE") refl
method_token Notify = token_is (codes "POST") refl

request_sound : (r : RequestParts) (url : List ℕ) (aim : Aim) → IsSendable r url aim → IsSoundFrame Request (request_frame r url aim)
request_sound r url aim h =
    let start = Ask (method_text r.op) (target_text r url aim) written_minor in
    let body = body_of r.pc in
    let says = announces (host_of url) r.fr r.rqi r.rqet (created_type r.op r.ty) r.pc (decimal (length body)) in
    let framing = framing_is start (length body) (caller_lines r url ++ ending_lines r) (omega (arith, h.body)) says in
    record {
      start = (method_token r.op, h.target, omega arith);
      lines = lines_are r url aim h;
      head_fits = h.head;
      lines_fit = omega (arith, says.count);
      body = subst (λ f. CarriesBody (body_limit Request) f body body) (sym framing) (refl, refl, h.body);
    }

pub request_back : (r : RequestParts) (url : List ℕ) (aim : Aim) → IsSendable r url aim
    → IsSoundFrame Request (request_frame r url aim)
    × ((rest : List ℕ) → BeginsWithFrame Request (frame_text (request_frame r url aim) ++ rest) (request_frame r url aim) rest)
request_back r url aim h =
    let sound = request_sound r url aim h in (
      sound,
      λ rest. record {
        bytes = frame_text (request_frame r url aim);
        is_frame = written_is_read Request (request_frame r url aim) sound;
        stream_is = refl;
      },
    )
