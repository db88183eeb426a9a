-- Laws of the lines of a stream.
use Rattle.std.specs.Prelude.{◌≡◌, ℕ, ◌+◌, ◌≤◌, List, length}
use Rattle.primitive_replay.specs.Lines.{line_read}
use Rattle.primitive_replay.specs.Stream.{BeginsBadly, BeginsWithLines}
use Rattle.primitive_replay.specs.declared.line.Line.{Line}

-- As many lines of a stream, from its first on, are always the same.
abbrev pub LinesAreHeardInOneWay : Type 0
LinesAreHeardInOneWay =
    (bytes rest left : List ℕ) (heard other : List Line)
    → BeginsWithLines 1 bytes heard rest → BeginsWithLines 1 bytes other left
    → length heard ≡ length other → heard ≡ other

-- Where a line is bad, neither it nor what is behind it is ever among the lines that a stream
-- begins with.
abbrev pub NothingIsHeardBehindABadLine : Type 0
NothingIsHeardBehindABadLine =
    (bytes rest left : List ℕ) (heard other : List Line)
    → BeginsWithLines 1 bytes heard rest → BeginsBadly line_read (1 + length heard) rest
    → BeginsWithLines 1 bytes other left → length other ≤ length heard
