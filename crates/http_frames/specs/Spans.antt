-- What the offsets that a look at the bytes answers say of them.
use Rattle.std.specs.Prelude.{◌≡◌, ℕ, ◌<◌, ◌≤◌, List, [], ◌++◌, length, take, drop, map}
use Rattle.std.specs.Prelude.{slice_range, Option, Some, None, ⊤, if◌then◌else◌}
use Rattle.httparse.specs.declared.spans.HeaderSpan.{HeaderSpan}
use Rattle.httparse.specs.Spans.{header_bytes, span_bytes, IsWithin, IsSectionWithin}
use Rattle.http_frames.specs.declared.frame.Side.{Side}
use Rattle.http_frames.specs.declared.frame.Start.{Start}
use Rattle.http_frames.specs.declared.frame.Start.TheVariants as start
use Rattle.http_frames.specs.declared.frame.Frame.{Frame}
use Rattle.http_frames.specs.declared.head.StartSpans.{StartSpans}
use Rattle.http_frames.specs.declared.head.StartSpans.TheVariants.{Ask, Answer}
use Rattle.http_frames.specs.declared.head.HeadSpans.{HeadSpans}
use Rattle.http_frames.specs.declared.head.HeadLook.{HeadLook}
use Rattle.http_frames.specs.declared.head.HeadLook.TheVariants.{Whole, NotYet, Never}
use Rattle.http_frames.specs.declared.look.FrameSpans.{FrameSpans}
use Rattle.http_frames.specs.declared.body.Coding.{Coding}
use Rattle.http_frames.specs.declared.body.Coding.TheVariants as coding
use Rattle.http_frames.specs.Lines.{Line}
use Rattle.http_frames.specs.Body.{Framing, counted, chunked, refused, framing_of}
use Rattle.http_frames.specs.ChunkLooks.{AreChunksAt}
use Rattle.http_frames.specs.Frame.{head_limit, lines_limit, body_limit, IsHead, IsFrame}

-- what was read of the head as what it says of the body
abbrev pub framing_as : Option Coding → Framing
framing_as (Some (coding.Counted n)) = counted n
framing_as (Some coding.Chunked) = chunked
framing_as None = refused

-- what the spans of a start line cover
abbrev pub start_at : List ℕ → StartSpans → Start
start_at bytes (Ask method target minor) =
    start.Ask (span_bytes bytes method) (span_bytes bytes target) minor
start_at bytes (Answer status minor) = start.Answer status minor

-- The spans of a start line lie in the first n bytes.
abbrev pub IsStartWithin : ℕ → StartSpans → Type 0
IsStartWithin n (Ask method target minor) = IsWithin n method × IsWithin n target
IsStartWithin n (Answer status minor) = ⊤

-- what the first count headers cover
abbrev pub lines_at : List ℕ → List HeaderSpan → ℕ → List Line
lines_at bytes headers count = map (header_bytes bytes) (take count headers)

-- A head stands at the front of the bytes, and the spans cover its parts.
pub record IsHeadAt
    (side : Side) (bytes : List ℕ) (headers : List HeaderSpan) (head : HeadSpans) : Type 0 where
  pub is_head : IsHead side (take head.len bytes) (start_at bytes head.start)
      (lines_at bytes headers head.lines)
  pub start_fits : IsStartWithin head.len head.start
  pub lines_fit : IsSectionWithin bytes headers head.len head.lines

-- The spans are those of a head within the limits.
pub record IsGoodHead
    (side : Side) (bytes : List ℕ) (headers : List HeaderSpan) (head : HeadSpans) : Type 0 where
  pub at : IsHeadAt side bytes headers head
  pub fits : head.len ≤ head_limit
  pub room : length headers ≤ lines_limit

-- what it says of the body
abbrev pub framing_at : List ℕ → List HeaderSpan → HeadSpans → Framing
framing_at bytes headers head =
    framing_of (start_at bytes head.start) (lines_at bytes headers head.lines)

-- A head within the limits that announces chunks stands at the front, the spans cover its parts,
-- and behind it chunks were walked, up to a place and with this part of the body.
pub record AreBehind
    (side : Side) (bytes : List ℕ) (headers : List HeaderSpan) (head : HeadSpans) (at : ℕ)
    (body : List ℕ) : Type 0 where
  pub good : IsGoodHead side bytes headers head
  pub framing : framing_at bytes headers head ≡ chunked
  pub chunks : AreChunksAt (drop head.len bytes) at body
  pub within : at ≤ length (drop head.len bytes)
  pub fits : length body ≤ body_limit side

-- No such head was found yet, and none were walked; or some behind the one that was found.
abbrev pub IsWalked :
    Side → List ℕ → List HeaderSpan → Option HeadSpans → ℕ → List ℕ → Type 0
IsWalked side bytes headers None at body = (at ≡ 0) × (body ≡ [])
IsWalked side bytes headers (Some head) at body = AreBehind side bytes headers head at body

-- no head stands at the front
pub record HasNoHead (side : Side) (bytes : List ℕ) : Type 0 where
  pub none : (text rest : List ℕ) (start : Start) (lines : List Line)
      → IsHead side text start lines → ¬ (bytes ≡ text ++ rest)

-- whatever follows, a head at the front has more than so many lines
pub record HeadExceeds (side : Side) (room : ℕ) (bytes : List ℕ) : Type 0 where
  pub exceeds : (more text rest : List ℕ) (start : Start) (lines : List Line)
      → IsHead side text start lines → bytes ++ more ≡ text ++ rest → room < length lines

-- P of the spans, if there is a whole head
abbrev pub IfWhole : HeadLook → (HeadSpans → Type 0) → Type 0
IfWhole (Whole head) P = P head
IfWhole NotYet P = ⊤
IfWhole Never P = ⊤

-- P, if there is none so far
abbrev pub OnNotYet : HeadLook → Type 0 → Type 0
OnNotYet (Whole head) P = ⊤
OnNotYet NotYet P = P
OnNotYet Never P = ⊤

-- P, if none can be there
abbrev pub OnNever : HeadLook → Type 0 → Type 0
OnNever (Whole head) P = ⊤
OnNever NotYet P = ⊤
OnNever Never P = P

-- what the spans of a frame cover, where its chunks, if it has any, carry this body
abbrev pub frame_at : List ℕ → List HeaderSpan → List ℕ → FrameSpans → Frame
frame_at bytes headers body spans = record {
  start = start_at bytes spans.start;
  lines = lines_at bytes headers spans.lines;
  body = if spans.chunked then body else slice_range bytes spans.body spans.end;
}

-- The spans lie in the bytes.
pub record AreWithin
    (bytes : List ℕ) (headers : List HeaderSpan) (spans : FrameSpans) : Type 0 where
  pub start_fits : IsStartWithin spans.body spans.start
  pub lines_fit : IsSectionWithin bytes headers spans.body spans.lines
  pub ordered : spans.body ≤ spans.end
  pub end_fits : spans.end ≤ length bytes

-- A frame stands at the front of the bytes, and the spans cover its parts.
pub record IsFrameAt
    (side : Side) (bytes : List ℕ) (headers : List HeaderSpan) (body : List ℕ)
    (spans : FrameSpans) : Type 0 where
  pub is_frame : IsFrame side (take spans.end bytes) (frame_at bytes headers body spans)
  pub within : AreWithin bytes headers spans

-- whatever follows, a frame at the front has at least so many bytes
pub record NeedsBytes (side : Side) (bytes : List ℕ) (need : ℕ) : Type 0 where
  pub at_least : (more text rest : List ℕ) (frame : Frame)
      → IsFrame side text frame → bytes ++ more ≡ text ++ rest → need ≤ length text

-- whatever follows, no frame stands at the front
pub record CanNotBegin (side : Side) (bytes : List ℕ) : Type 0 where
  pub none : (more text rest : List ℕ) (frame : Frame)
      → IsFrame side text frame → ¬ (bytes ++ more ≡ text ++ rest)
