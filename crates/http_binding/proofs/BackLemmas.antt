-- The frame of a reply is sound, so that it is read back from its text.
use Rattle.std.proofs.Common.{◌≡◌, ℕ, zero, suc, ◌*◌, ◌<◌, ◌≤◌, ◌^◌, Bool, true, false, ◌&&◌, leb, List, [], ◌∷◌, ◌++◌, length, codes, Option, Some, None, IsTrue, IfSome, refl, sym, ap, subst, ◌∙◌, arith}
use Rattle.std.specs.Prelude.{All}
use Rattle.std.specs.Fmt.{decimal}
use Rattle.std.specs.Char.{is_ascii_graphic}
use Rattle.std.specs.List.{flat_map}
use Rattle.std.proofs.lemmas.Bool.{leb-true, cond-true}
use Rattle.std.proofs.lemmas.Bool.Decides.{Decides-below_and}
use Rattle.std.proofs.lemmas.Fmt.{decimal_is_IsNumeral, length-decimal-le}
use Rattle.std.proofs.lemmas.List.{length-append}
use Rattle.std.proofs.lemmas.List.Elements.{All-nil, All-cons, All-head, All-tail, All-append, All-weaker}
use Rattle.std.proofs.lemmas.List.Sums.{AllPass-from_list_all}
use Rattle.httparse.specs.Grammar.{AllPass, is_token, is_token_byte}
use Rattle.m2m_names.specs.StatusCodes.{rsc_row}
use Rattle.m2m_names.specs.declared.codes.Rsc.{Rsc}
use Rattle.m2m_names.proofs.StatusLemmas.{number_in_range, http_in_range}
use Rattle.m2m_value.specs.Data.{Data}
use Rattle.primitive_json.specs.Bounds.{is_request_id, request_id_limit}
use Rattle.primitive_json.specs.declared.reply.ReplyParts.{ReplyParts}
use Rattle.http_frames.specs.declared.frame.Side.TheVariants.{Reply}
use Rattle.http_frames.specs.declared.frame.Start.{Start}
use Rattle.http_frames.specs.declared.frame.Start.TheVariants.{Answer}
use Rattle.http_frames.specs.Lines.{Line, is_same_name, values_named}
use Rattle.http_frames.specs.Body.{transfer_field, counted, minor_of, framing_of, framing_of_values, CarriesBody}
use Rattle.http_frames.specs.Frame.{body_limit}
use Rattle.http_frames.specs.Stream.{BeginsWithFrame}
use Rattle.http_frames.specs.Text.{phrase_of, start_text, line_text, frame_text, IsLine, IsSoundFrame}
use Rattle.http_frames.proofs.TextLemmas.{written_is_read}
use Rattle.http_binding.specs.declared.headers.Field.TheVariants.{Id}
use Rattle.http_binding.specs.Headers.{field_name, type_field, code_field, length_field, connection_field}
use Rattle.http_binding.specs.Replying.{body_of, content_lines, id_lines, close_lines, reply_lines, reply_frame, reply_text, written_minor}
use Rattle.http_binding.specs.MediaTypes.{json_type}
use Rattle.http_binding.specs.Laws.{IsWithinLimits}
use Rattle.http_binding.proofs.GraphicLemmas.{line_is, decimal_graphic, length_is}
use Rattle.m2m_names.proofs.NameLemmas.{printable_parts}

-- a line of the grammar, and not long
abbrev IsShortLine : Line → Type 0
IsShortLine line = IsLine line × (length (line_text line) ≤ 160)

short_line : (name value : List ℕ) → IsTrue (is_token name) → length name ≤ 16 → AllPass is_ascii_graphic value → length value ≤ 128 → IsShortLine (name, value)
short_line name value token narrow all short = (
  line_is name value token all,
  omega (arith, length-append name (58 ∷ 32 ∷ value ++ 13 ∷ 10 ∷ []), length-append value (13 ∷ 10 ∷ [])),
)

http_small : (rsc : Rsc) → (rsc_row rsc).http < 1000
http_small rsc = omega (arith, (http_in_range rsc).1)

-- each phrase is short
abbrev phrases_short : ℕ → Bool
phrases_short zero = true
phrases_short (suc n) = leb (length (phrase_of n)) 100 && phrases_short n

phrase_short : (status : ℕ) → status < 1000 → length (phrase_of status) ≤ 100
unfolding phrase_of
phrase_short status small =
    let test = λ (k : ℕ). leb (length (phrase_of k)) 100 in
    let below = (Decides-below_and test (λ k. test k ≡ true) phrases_short (λ k. (λ x. x, λ x. x)) refl (λ _. refl) 1000).0 refl status small in
    leb-true _ 100 below

-- the lines of a reply
short_id : (id : Option (List ℕ)) → IfSome id (λ t. IsTrue (is_request_id t)) → All IsShortLine (id_lines id)
unfolding is_token_byte
short_id None h = All-nil IsShortLine
short_id (Some id) h =
    let parts = printable_parts request_id_limit id h in
    All-cons IsShortLine (field_name Id, id) [] (short_line (field_name Id) id refl (omega arith) (AllPass-from_list_all is_ascii_graphic id parts.graphic) parts.filled.most) (All-nil IsShortLine)

short_type : (content : Option Data) → All IsShortLine (content_lines None content)
unfolding is_token_byte
short_type None = All-nil IsShortLine
short_type (Some content) =
    let value = json_type in
    All-cons IsShortLine (type_field, value) [] (short_line (type_field) value refl (omega arith) (AllPass-from_list_all is_ascii_graphic value refl) (omega arith)) (All-nil IsShortLine)

short_close : (close : Bool) → All IsShortLine (close_lines close)
unfolding is_token_byte
short_close false = All-nil IsShortLine
short_close true =
    let value = codes "close" in
    All-cons IsShortLine (connection_field, value) [] (short_line connection_field value refl (omega arith) (AllPass-from_list_all is_ascii_graphic value refl) (omega arith)) (All-nil IsShortLine)

short_number : (name : List ℕ) (n : ℕ) → IsTrue (is_token name) → length name ≤ 16 → n < 10 ^ 7 → IsShortLine (name, decimal n)
short_number name n token narrow small =
    let long = length-decimal-le 7 n (omega arith) small (omega arith) in
    short_line name (decimal n) token narrow (decimal_graphic n) (omega arith)

-- the length of a body within the limit has seven digits at most
body_small : (n : ℕ) → n ≤ body_limit Reply → n < 10 ^ 7
body_small n h = omega arith

short_lines : (reply : ReplyParts) (close : Bool) → IsWithinLimits reply → All IsShortLine (reply_lines reply close)
unfolding is_token_byte
short_lines reply close h =
    let number = (rsc_row reply.rsc).number in
    let size = length (body_of reply.pc) in
    let row = (number_in_range reply.rsc).1 in
    let last = (length_field, decimal size) ∷ close_lines close in
    All-cons IsShortLine (code_field, decimal number) _ (short_number code_field number refl (omega arith) (omega arith))
    (All-append IsShortLine (id_lines reply.rqi) (content_lines None reply.pc ++ last) (short_id reply.rqi h.rqi)
    (All-append IsShortLine (content_lines None reply.pc) last (short_type reply.pc)
    (All-cons IsShortLine (length_field, decimal size) (close_lines close) (short_number length_field size refl (omega arith) (body_small size h.body)) (short_close close))))

-- how many they are, and what they say of the body
abbrev lines_with : List ℕ → Option (List ℕ) → Option Data → List ℕ → Bool → List Line
lines_with code id content size close =
    (code_field, code) ∷ (id_lines id ++ (content_lines None content ++ ((length_field, size) ∷ close_lines close)))

record Announces (size : List ℕ) (lines : List Line) : Type 0 where
  count : length lines ≤ 5
  coding : values_named transfer_field lines ≡ []
  size_is : values_named length_field lines ≡ size ∷ []

announces : (code : List ℕ) (id : Option (List ℕ)) (content : Option Data) (size : List ℕ) (close : Bool) → Announces size (lines_with code id content size close)
unfolding is_same_name
announces code None None size false = record { count = omega arith; coding = refl; size_is = refl }
announces code None None size true = record { count = omega arith; coding = refl; size_is = refl }
announces code None (Some content) size false = record { count = omega arith; coding = refl; size_is = refl }
announces code None (Some content) size true = record { count = omega arith; coding = refl; size_is = refl }
announces code (Some id) None size false = record { count = omega arith; coding = refl; size_is = refl }
announces code (Some id) None size true = record { count = omega arith; coding = refl; size_is = refl }
announces code (Some id) (Some content) size false = record { count = omega arith; coding = refl; size_is = refl }
announces code (Some id) (Some content) size true = record { count = omega arith; coding = refl; size_is = refl }

framing_is : (start : Start) (n : ℕ) (lines : List Line) → n < 10 ^ 7 → Announces (decimal n) lines → framing_of start lines ≡ counted n
framing_is start n lines small a =
    (λ i. framing_of_values (minor_of start) (a.coding i) (a.size_is i)) ∙ cond-true _ _ _ (length_is n small) ∙ ap counted (decimal_is_IsNumeral n (omega arith)).1

-- the size of the head
lines_length : (lines : List Line) → All IsShortLine lines → length (flat_map line_text lines) ≤ length lines * 160
lines_length [] all = omega arith
lines_length (line ∷ lines) all =
    omega (arith, length-append (line_text line) (flat_map line_text lines), (All-head IsShortLine line lines all).1, lines_length lines (All-tail IsShortLine line lines all))

start_length : (http : ℕ) → http < 1000 → length (start_text (Answer http written_minor)) ≤ 120
start_length http small = omega (arith, length-append (phrase_of http) (13 ∷ 10 ∷ []), phrase_short http small)

pub reply_sound : (reply : ReplyParts) (close : Bool) → IsWithinLimits reply → IsSoundFrame Reply (reply_frame reply close)
reply_sound reply close h =
    let http = (rsc_row reply.rsc).http in
    let size = length (body_of reply.pc) in
    let lines = reply_lines reply close in
    let short = short_lines reply close h in
    let says = announces (decimal (rsc_row reply.rsc).number) reply.rqi reply.pc (decimal size) close in
    let framing = framing_is (Answer http written_minor) size lines (body_small size h.body) says in
    record {
      start = (http_small reply.rsc, omega arith);
      lines = All-weaker IsShortLine IsLine (λ line s. s.0) lines short;
      head_fits = omega (arith, length-append (start_text (Answer http written_minor)) (flat_map line_text lines ++ 13 ∷ 10 ∷ []), length-append (flat_map line_text lines) (13 ∷ 10 ∷ []), start_length http (http_small reply.rsc), lines_length lines short, says.count);
      lines_fit = omega (arith, says.count);
      body = subst (λ f. CarriesBody (body_limit Reply) f (body_of reply.pc) (body_of reply.pc)) (sym framing) (refl, refl, h.body);
    }

pub read_back : (reply : ReplyParts) (close : Bool) → IsWithinLimits reply → (rest : List ℕ) → BeginsWithFrame Reply (reply_text reply close ++ rest) (reply_frame reply close) rest
read_back reply close h rest = record {
  bytes = frame_text (reply_frame reply close);
  is_frame = written_is_read Reply (reply_frame reply close) (reply_sound reply close h);
  stream_is = refl;
}
