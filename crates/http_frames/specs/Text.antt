-- The text that is written for a message (RFC 9112, sections 2 to 5).
use Rattle.std.specs.Prelude.{◌≡◌, ℕ, ◌+◌, ◌/◌, ◌%◌, ◌<◌, ◌≤◌, ◌&&◌, nat_le, nat_lt, List, []}
use Rattle.std.specs.Prelude.{◌∷◌, ◌++◌, length, All, IsUtf8, unwrap_or, codes, if◌then◌else◌}
use Rattle.std.specs.List.{flat_map}
use Rattle.http.specs.StatusCode.{reason_phrase}
use Rattle.httparse.specs.Ascii.{space, colon, digit_zero, crlf_bytes}
use Rattle.httparse.specs.Grammar.{AllPass, IsToken, is_uri_byte, is_value_byte, trim_ows}
use Rattle.http_frames.specs.declared.frame.Side.{Side}
use Rattle.http_frames.specs.declared.frame.Side.TheVariants.{Request, Reply}
use Rattle.http_frames.specs.declared.frame.Start.{Start}
use Rattle.http_frames.specs.declared.frame.Start.TheVariants.{Ask, Answer}
use Rattle.http_frames.specs.declared.frame.Frame.{Frame}
use Rattle.http_frames.specs.Lines.{Line}
use Rattle.http_frames.specs.Body.{framing_of, CarriesBody}
use Rattle.http_frames.specs.Frame.{head_limit, lines_limit, body_limit, IsFrame}

-- HTTP-version, from the last digit of the minor version (RFC 9112, section 2.3)
abbrev pub version_text : ℕ → List ℕ
version_text minor = codes "HTTP/1." ++ (digit_zero + minor % 10) ∷ []

-- status-code, the three last digits of the number (RFC 9112, section 4)
abbrev pub status_digits : ℕ → List ℕ
status_digits status =
    (digit_zero + status / 100 % 10) ∷ (digit_zero + status / 10 % 10)
    ∷ (digit_zero + status % 10) ∷ []

-- reason-phrase: that of the crate http for a status from 100 to 999, and none where it has none
-- (RFC 9110, section 15)
unfoldable pub phrase_of : ℕ → List ℕ
phrase_of status =
    if nat_le 100 status && nat_lt status 1000 then unwrap_or (reason_phrase status) [] else []

-- request-line or status-line, with its end (RFC 9112, sections 3 and 4)
abbrev pub start_text : Start → List ℕ
start_text (Ask method target minor) =
    method ++ (space ∷ target ++ (space ∷ version_text minor ++ crlf_bytes))
start_text (Answer status minor) =
    version_text minor ++ (space ∷ status_digits status ++ (space ∷ phrase_of status ++ crlf_bytes))

-- a line with its end: the name, a colon, one space and the value (RFC 9112, section 5)
abbrev pub line_text : Line → List ℕ
line_text line = line.0 ++ (colon ∷ space ∷ line.1 ++ crlf_bytes)

-- the head, with the empty line that ends it
abbrev pub head_text : Frame → List ℕ
head_text frame = start_text frame.start ++ (flat_map line_text frame.lines ++ crlf_bytes)

-- the whole message
abbrev pub frame_text : Frame → List ℕ
frame_text frame = head_text frame ++ frame.body

-- a text that may be the target of a request (RFC 9112, section 3.2)
abbrev pub IsTarget : List ℕ → Type 0
IsTarget text = (0 < length text) × AllPass is_uri_byte text × IsUtf8 text

-- what a message of that side may begin with
abbrev pub IsStart : Side → Start → Type 0
IsStart Request (Ask method target minor) =
    IsToken method × IsTarget target × (minor ≤ 1)
IsStart Request (Answer status minor) = ⊥
IsStart Reply (Ask method target minor) = ⊥
IsStart Reply (Answer status minor) = (status < 1000) × (minor ≤ 1)

-- a line whose name is a token, and whose value has no control byte but the tab and no white
-- space around it
abbrev pub IsLine : Line → Type 0
IsLine line = IsToken line.0 × AllPass is_value_byte line.1 × (trim_ows line.1 ≡ line.1)

-- A message of the grammar and within the limits, whose body has the length that its lines
-- announce.
pub record IsSoundFrame (side : Side) (frame : Frame) : Type 0 where
  pub start : IsStart side frame.start
  pub lines : All IsLine frame.lines
  pub head_fits : length (head_text frame) ≤ head_limit
  pub lines_fit : length frame.lines ≤ lines_limit
  pub body :
      CarriesBody (body_limit side) (framing_of frame.start frame.lines) frame.body frame.body

-- What is written of a sound message is read as that message.
abbrev pub WrittenIsRead : Type 0
WrittenIsRead =
    (side : Side) (frame : Frame) → IsSoundFrame side frame → IsFrame side (frame_text frame) frame
