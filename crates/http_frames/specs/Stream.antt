-- The messages of a stream, one after another.
use Rattle.std.specs.Prelude.{◌≡◌, ℕ, List, [], ◌∷◌, ◌++◌}
use Rattle.http_frames.specs.declared.frame.Side.{Side}
use Rattle.http_frames.specs.declared.frame.Frame.{Frame}
use Rattle.http_frames.specs.Frame.{IsFrame}

-- The stream is the bytes of this frame, and then a rest.
pub record BeginsWithFrame
    (side : Side) (stream : List ℕ) (frame : Frame) (rest : List ℕ) : Type 0 where
  pub bytes : List ℕ
  pub is_frame : IsFrame side bytes frame
  pub stream_is : stream ≡ bytes ++ rest

-- no prefix of the stream is a frame
abbrev pub HasNoFrame : Side → List ℕ → Type 0
HasNoFrame side stream =
    (frame : Frame) (rest : List ℕ) → ¬ (BeginsWithFrame side stream frame rest)

-- The stream is these frames one after another, and then a rest (RFC 9112, section 9.3).
abbrev pub BeginsWithFrames : Side → List ℕ → List Frame → List ℕ → Type 0
BeginsWithFrames side stream [] rest = stream ≡ rest
BeginsWithFrames side stream (frame ∷ frames) rest =
    (after : List ℕ) × BeginsWithFrame side stream frame after
    × BeginsWithFrames side after frames rest

-- The stream is these frames one after another, and then a rest that begins with none (RFC 9112,
-- section 9.3).
abbrev pub Frames : Side → List ℕ → List Frame → List ℕ → Type 0
Frames side stream frames rest =
    BeginsWithFrames side stream frames rest × HasNoFrame side rest

-- A stream has one list of frames, and one rest.
abbrev pub FramesAreUnique : Type 0
FramesAreUnique =
    (side : Side) (stream : List ℕ) (frames others : List Frame) (rest other : List ℕ)
    → Frames side stream frames rest → Frames side stream others other
    → (frames ≡ others) × (rest ≡ other)

-- No frame's bytes begin the bytes of another frame.
abbrev pub NoFrameBeginsAnother : Type 0
NoFrameBeginsAnother =
    (side : Side) (bytes more : List ℕ) (frame other : Frame)
    → IsFrame side bytes frame → IsFrame side (bytes ++ more) other → (more ≡ []) × (frame ≡ other)
