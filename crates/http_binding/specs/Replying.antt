-- The frame and the text of a reply (TS-0009, 6.3 to 6.5; RFC 9112, sections 4 to 6), and the lines
-- that a request has too.
use Rattle.std.specs.Prelude.{ℕ, Bool, true, false, List, [], ◌∷◌, ◌++◌, length, Option}
use Rattle.std.specs.Prelude.{Some, None}
use Rattle.std.specs.Fmt.{decimal}
use Rattle.m2m_names.specs.StatusCodes.{rsc_row}
use Rattle.m2m_value.specs.Data.{Data}
use Rattle.m2m_value.specs.Spelling as json
use Rattle.primitive_json.specs.declared.reply.ReplyParts.{ReplyParts}
use Rattle.http_frames.specs.declared.frame.Start.TheVariants.{Answer}
use Rattle.http_frames.specs.declared.frame.Frame.{Frame}
use Rattle.http_frames.specs.Lines.{Line}
use Rattle.http_frames.specs.Text.{frame_text}
use Rattle.http_binding.specs.Headers.{id_field, code_field, type_field, length_field}
use Rattle.http_binding.specs.Headers.{close_option, connection_field}
use Rattle.http_binding.specs.MediaTypes.{json_type, semicolon, type_parameter, equals_sign}

-- the body: the compact JSON text of the content, where there is some (TS-0009, 6.5)
abbrev pub body_of : Option Data → List ℕ
body_of None = []
body_of (Some content) = json.text_of content

-- the line that repeats the request's identifier
abbrev pub id_lines : Option (List ℕ) → List Line
id_lines None = []
id_lines (Some id) = (id_field, id) ∷ []

-- the type of the content, with the number of the type that is to be created
abbrev pub content_type : Option ℕ → List ℕ
content_type None = json_type
content_type (Some number) =
    json_type ++ semicolon ∷ type_parameter ++ equals_sign ∷ decimal number

-- the line that tells it, where there is content
abbrev pub content_lines : Option ℕ → Option Data → List Line
content_lines type None = []
content_lines type (Some content) = (type_field, content_type type) ∷ []

-- the line that says that the connection closes (RFC 9112, section 9.6)
abbrev pub close_lines : Bool → List Line
close_lines false = []
close_lines true = (connection_field, close_option) ∷ []

-- the lines that speak of the body, and of the connection, which closes behind the message or not
-- (RFC 9110, section 8.6)
abbrev pub body_lines : Option ℕ → Option Data → Bool → List Line
body_lines type pc close =
    content_lines type pc ++ ((length_field, decimal (length (body_of pc))) ∷ close_lines close)

-- the minor version of HTTP that is written (RFC 9112, section 2.3)
abbrev pub written_minor : ℕ
written_minor = 1

-- the header lines of a reply (TS-0009, 6.4)
abbrev pub reply_lines : ReplyParts → Bool → List Line
reply_lines reply close =
    (code_field, decimal (rsc_row reply.rsc).number)
    ∷ (id_lines reply.rqi ++ body_lines None reply.pc close)

-- the frame of a reply, which closes the connection or not
abbrev pub reply_frame : ReplyParts → Bool → Frame
reply_frame reply close = record {
  start = Answer (rsc_row reply.rsc).http written_minor;
  lines = reply_lines reply close;
  body = body_of reply.pc;
}

-- the bytes of a reply, which closes the connection or not: those of its frame
abbrev pub reply_text : ReplyParts → Bool → List ℕ
reply_text reply close = frame_text (reply_frame reply close)
