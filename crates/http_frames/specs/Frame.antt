-- One message on the stream: a head, and the body that its lines announce (RFC 9112, section 2.1).
use Rattle.std.specs.Prelude.{◌≡◌, ◌≤◌, ℕ, ◌+◌, List, ◌++◌, length, map}
use Rattle.httparse.specs.Grammar.{RequestHead, IsRequestHead, print_request, ResponseHead}
use Rattle.httparse.specs.Grammar.{IsResponseHead, print_response, status_code}
use Rattle.httparse.specs.Spans.{name_and_value}
use Rattle.http_frames.specs.declared.frame.Side.{Side}
use Rattle.http_frames.specs.declared.frame.Side.TheVariants.{Request, Reply}
use Rattle.http_frames.specs.declared.frame.Start.{Start}
use Rattle.http_frames.specs.declared.frame.Start.TheVariants.{Ask, Answer}
use Rattle.http_frames.specs.declared.frame.Frame.{Frame}
use Rattle.http_frames.specs.Lines.{Line}
use Rattle.http_frames.specs.Body.{framing_of, CarriesBody, carried_limit}

-- a head has at most so many bytes, blank lines before it counted
abbrev pub head_limit : ℕ
head_limit = 16384

-- A head has at most so many lines.
abbrev pub lines_limit : ℕ
lines_limit = 64

-- a body has at most so many bytes
abbrev pub body_limit : Side → ℕ
body_limit Request = 65536
body_limit Reply = 1048576

-- No body, of a request or of a reply, has more bytes than this.
abbrev pub largest_body : ℕ
largest_body = body_limit Reply

-- a message has at most so many bytes: those of its head, and those that carry its body
abbrev pub frame_limit : Side → ℕ
frame_limit side = head_limit + carried_limit (body_limit side)

-- The text is the head of a request that says this (RFC 9112, section 3).
pub record IsRequestText (text : List ℕ) (start : Start) (lines : List Line) : Type 0 where
  pub head : RequestHead
  pub valid : IsRequestHead head
  pub text_is : text ≡ print_request head
  pub start_is : start ≡ Ask head.method head.target head.minor
  pub lines_are : lines ≡ map name_and_value head.fields

-- The text is the head of a reply that says this (RFC 9112, section 4).
pub record IsReplyText (text : List ℕ) (start : Start) (lines : List Line) : Type 0 where
  pub head : ResponseHead
  pub valid : IsResponseHead head
  pub text_is : text ≡ print_response head
  pub start_is : start ≡ Answer (status_code head) head.minor
  pub lines_are : lines ≡ map name_and_value head.fields

-- the text is a head of that side
abbrev pub IsHead : Side → List ℕ → Start → List Line → Type 0
IsHead Request text start lines = IsRequestText text start lines
IsHead Reply text start lines = IsReplyText text start lines

-- The text is such a head, and within the limits.
pub record IsLimitedHead
    (side : Side) (text : List ℕ) (start : Start) (lines : List Line) : Type 0 where
  pub is_head : IsHead side text start lines
  pub head_fits : length text ≤ head_limit
  pub lines_fit : length lines ≤ lines_limit

-- The bytes are this message: its head within the limits, and what carries its body.
pub record IsFrame (side : Side) (bytes : List ℕ) (frame : Frame) : Type 0 where
  pub head : List ℕ
  pub carried : List ℕ
  pub bytes_are : bytes ≡ head ++ carried
  pub head_is : IsLimitedHead side head frame.start frame.lines
  pub body :
      CarriesBody (body_limit side) (framing_of frame.start frame.lines) carried frame.body
