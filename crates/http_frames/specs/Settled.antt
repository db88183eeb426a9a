-- What was settled of the front of a stream.
use Rattle.std.specs.Prelude.{Result, Ok, Err, ⊤}
use Rattle.http_frames.specs.declared.fault.FrameFault.{FrameFault}
use Rattle.http_frames.specs.declared.inbox.Settled.{Settled}
use Rattle.http_frames.specs.declared.inbox.Settled.TheVariants.{Whole, End, Never}
use Rattle.http_frames.specs.declared.look.FrameSpans.{FrameSpans}

-- P of the spans, if there is a whole frame
abbrev pub IfSettled : Result Settled FrameFault → (FrameSpans → Type 0) → Type 0
IfSettled (Ok (Whole spans)) P = P spans
IfSettled (Ok End) P = ⊤
IfSettled (Ok Never) P = ⊤
IfSettled (Err fault) P = ⊤

-- P, if the stream has ended
abbrev pub OnSettledEnd : Result Settled FrameFault → Type 0 → Type 0
OnSettledEnd (Ok (Whole spans)) P = ⊤
OnSettledEnd (Ok End) P = P
OnSettledEnd (Ok Never) P = ⊤
OnSettledEnd (Err fault) P = ⊤

-- P, if no frame can stand there
abbrev pub OnSettledNever : Result Settled FrameFault → Type 0 → Type 0
OnSettledNever (Ok (Whole spans)) P = ⊤
OnSettledNever (Ok End) P = ⊤
OnSettledNever (Ok Never) P = P
OnSettledNever (Err fault) P = ⊤

-- there is no whole frame
abbrev pub IsNoFrame : Settled → Type 0
IsNoFrame (Whole spans) = ⊥
IsNoFrame End = ⊤
IsNoFrame Never = ⊤
