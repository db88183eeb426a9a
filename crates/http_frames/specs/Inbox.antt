-- What an inbox holds, and what its calls answer.
use Rattle.std.specs.Prelude.{◌≡◌, ◌≢◌, ℕ, Bool, true, false, List, [], ◌∷◌, ◌++◌, length, ◌+◌}
use Rattle.std.specs.Prelude.{◌<◌, Option, None, Some, Result, Ok, Err, IfSome, ⊤}
use Rattle.std.specs.Io.KnownBytes.{Consumes, IsAtEnd, prepend_known}
use Rattle.http_frames.specs.declared.frame.Side.{Side}
use Rattle.http_frames.specs.declared.frame.Frame.{Frame}
use Rattle.http_frames.specs.declared.frame.Next.{Next}
use Rattle.http_frames.specs.declared.frame.Next.TheVariants.{Message, End}
use Rattle.http_frames.specs.declared.fault.FrameFault.{FrameFault}
use Rattle.http_frames.specs.declared.fault.FrameFault.TheVariants.{NoFrame, ReadFault, OutOfMemory}
use Rattle.http_frames.specs.Frame.{frame_limit}
use Rattle.http_frames.specs.Stream.{BeginsWithFrame, HasNoFrame, Frames}
use Rattle.http_frames.specs.Waiting.{piece_limit, ReadsAsNeeded}

-- the bytes that were read and aren't given yet, and whether no frame can be given any more
pub record Intake : Type 0 where
  pub held : List ℕ
  pub refused : Bool

-- the bytes held, and then those that the source has left, where it tells them
abbrev pub stream_of : List ℕ → Option (List ℕ) → Option (List ℕ)
stream_of held left = prepend_known held left

-- The source gave some bytes, and they stand behind those that were held.
pub record Reads (left rest : Option (List ℕ)) (held now : List ℕ) : Type 0 where
  pub read : List ℕ
  pub consumed : Consumes left rest read
  pub held_is : now ≡ held ++ read

-- P of the frame, if one is given
abbrev pub IfMessage : Result Next FrameFault → (Frame → Type 0) → Type 0
IfMessage (Ok (Message frame)) P = P frame
IfMessage (Ok End) P = ⊤
IfMessage (Err fault) P = ⊤

-- P, unless one is given
abbrev pub UnlessMessage : Result Next FrameFault → Type 0 → Type 0
UnlessMessage (Ok (Message frame)) P = ⊤
UnlessMessage (Ok End) P = P
UnlessMessage (Err fault) P = P

-- P of what is answered where the frame that is held is asked for, as of an answer to a call for the
-- next frame, unless more has to be read
abbrev pub IfHeld : Result (Option Frame) FrameFault → (Result Next FrameFault → Type 0) → Type 0
IfHeld (Ok (Some frame)) P = P (Ok (Message frame))
IfHeld (Ok None) P = ⊤
IfHeld (Err fault) P = P (Err fault)

-- no frame can stand here
abbrev pub is_refusal : Result Next FrameFault → Bool
is_refusal (Ok next) = false
is_refusal (Err NoFrame) = true
is_refusal (Err ReadFault) = false
is_refusal (Err OutOfMemory) = false

-- an inbox of its own holds fewer bytes: those of the longest frame, and a piece
abbrev pub most_held : Side → ℕ
most_held side = frame_limit side + piece_limit

-- The frame stood in front of what is held now, in the bytes held before and those that the
-- source gave, which were few where those were.
pub record GivesFrame
    (side : Side) (left rest : Option (List ℕ)) (held now : List ℕ) (frame : Frame) : Type 0 where
  pub all : List ℕ
  pub reads : Reads left rest held all
  pub few : length held < most_held side → length all < most_held side
  pub begins : BeginsWithFrame side all frame now

-- A read gave the frame so, and each read of the source was needed.
pub record GivesAsNeeded {S : Type 0}
    (side : Side) (left rest : Option (List ℕ)) (held now : List ℕ) (src after : S)
    (frame : Frame) : Type 0 where
  pub given : GivesFrame side left rest held now frame
  pub needed : ReadsAsNeeded side held given.all src after

-- Some bytes are left, and no frame stands at their front: not in those held, nor in these and
-- those that the source has left.
pub record HoldsNoFrame (side : Side) (held : List ℕ) (left : Option (List ℕ)) : Type 0 where
  pub some : held ≢ []
  pub none : HasNoFrame side held
  pub none_left : IfSome (stream_of held left) (HasNoFrame side)

-- What may be answered where these frames begin the stream, and then this rest; and what the
-- stream is then.
abbrev pub AnswersNext :
    Side → Result Next FrameFault → List Frame → List ℕ → Option (List ℕ) → Type 0
AnswersNext side (Ok (Message frame)) frames rest stream =
    (later : List Frame) × (frames ≡ frame ∷ later)
    × IfSome stream (λ bytes. Frames side bytes later rest)
AnswersNext side (Ok End) frames rest stream = (frames ≡ []) × (rest ≡ [])
AnswersNext side (Err NoFrame) frames rest stream = (frames ≡ []) × (rest ≢ [])
AnswersNext side (Err ReadFault) frames rest stream =
    IfSome stream (λ bytes. Frames side bytes frames rest)
AnswersNext side (Err OutOfMemory) frames rest stream =
    IfSome stream (λ bytes. Frames side bytes frames rest)

-- Whatever frames begin the stream, the answer is the next of them, and the stream is then what
-- is behind it.
abbrev pub GivesNext : Side → Option (List ℕ) → Result Next FrameFault → Option (List ℕ) → Type 0
GivesNext side stream result now =
    IfSome stream (λ bytes. (frames : List Frame) (rest : List ℕ) → Frames side bytes frames rest
    → AnswersNext side result frames rest now)

-- What a call for the next frame answers, and what it leaves: of what the source had left and has
-- left now, where it tells that, and of the inbox before and after.
pub record TakesNext
    (side : Side) (left rest : Option (List ℕ)) (old new : Intake)
    (result : Result Next FrameFault) : Type 0 where
  -- it is the next of the frames that begin the stream, its end, or that no frame begins it
  pub frames : old.refused ≡ false
      → GivesNext side (stream_of old.held left) result (stream_of new.held rest)
  -- a frame stood in front of what is held now, and else all that was read is held
  pub message : IfMessage result (GivesFrame side left rest old.held new.held)
  pub kept : UnlessMessage result (Reads left rest old.held new.held)
  -- the end comes once nothing is held and the source has nothing left
  pub end : result ≡ Ok End → (new.held ≡ []) × IsAtEnd rest
  -- that no frame can stand here comes once that is so, and then at each call
  pub no_frame : old.refused ≡ false → result ≡ Err NoFrame → HoldsNoFrame side new.held rest
  pub refused : new.refused ≡ is_refusal result
  pub over : old.refused ≡ true → result ≡ Err NoFrame
  -- little more is read than a frame needs
  pub waiting : result ≡ Err ReadFault → HasNoFrame side new.held
  pub short : HasNoFrame side old.held → IfMessage result (λ frame. length new.held < piece_limit)
  -- and never more is held than a frame and a piece
  pub small : length old.held < most_held side → length new.held < most_held side
