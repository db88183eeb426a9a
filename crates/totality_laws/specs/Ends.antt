-- That what is read from a stream takes bytes of it, and that only so much is heard.
use Rattle.std.specs.Prelude.{ℕ, ◌<◌, ◌≤◌, List, [], ◌∷◌, length, IsTrue}
use Rattle.http_frames.specs.declared.frame.Frame.{Frame}
use Rattle.http_frames.specs.declared.frame.Side.{Side}
use Rattle.http_frames.specs.Stream.{BeginsWithFrame}
use Rattle.cse_server.specs.Closing.{most_frames}
use Rattle.cse_server.specs.Talk.{ends_at_close}
use Rattle.primitive_replay.specs.Lines.{most_lines}
use Rattle.primitive_replay.specs.Stream.{BeginsWithLines, BeginsWithTexts}
use Rattle.primitive_replay.specs.declared.line.Line.{Line}

-- Behind a message fewer bytes are left.
abbrev pub MessagesTakeBytes : Type 0
MessagesTakeBytes =
    (side : Side) (stream : List ℕ) (frame : Frame) (rest : List ℕ)
    → BeginsWithFrame side stream frame rest → length rest < length stream

-- Behind a line fewer bytes are left.
abbrev pub LinesTakeBytes : Type 0
LinesTakeBytes =
    (bytes text rest : List ℕ) → BeginsWithTexts bytes (text ∷ []) rest
    → length rest < length bytes

-- No more messages are heard than a connection may have: none stands behind one that closes it.
abbrev pub FewMessagesAreHeard : Type 0
FewMessagesAreHeard =
    (heard : List Frame) → IsTrue (ends_at_close heard 1) → length heard ≤ most_frames

-- No more lines are heard than there may be.
abbrev pub FewLinesAreHeard : Type 0
FewLinesAreHeard =
    (bytes : List ℕ) (heard : List Line) (rest : List ℕ) → BeginsWithLines 1 bytes heard rest
    → length heard ≤ most_lines
