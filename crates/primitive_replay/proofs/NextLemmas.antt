-- What is told of the line at the front of a stream.
use Rattle.std.proofs.Common.{◌≢◌, ℕ, ◌<◌, List, [], length, take, Option, Ok, Err}
use Rattle.std.specs.Io.KnownBytes.{IsAtEnd, Keeps, prepend_known}
use Rattle.std.specs.Str.Lines.{strip_carriage_return}
use Rattle.primitive_replay.specs.Front.{end_of, HasNoEnd, IsFront}
use Rattle.primitive_replay.specs.Lines.{GivesLine, line_at}
use Rattle.primitive_replay.specs.Stream.{NextIs}
use Rattle.primitive_replay.specs.declared.fault.LineFault.{LineFault}
use Rattle.primitive_replay.specs.declared.fault.LineFault.TheVariants.{Bad, ReadFault, OutOfMemory}
use Rattle.primitive_replay.specs.declared.front.Front.TheVariants.{TooLong}
use Rattle.primitive_replay.proofs.StandLemmas.{whole_bad, last_bad, long_bad}

-- a line that ends here was judged, and isn't taken
pub ended_fault : {L : Type 0} (form : List ℕ → Option L) (f : LineFault) (place : ℕ) (held : List ℕ) (stream left : Option (List ℕ)) → end_of held < length held
    → GivesLine (Err f) (line_at form place (strip_carriage_return (take (end_of held) held)))
    → Keeps stream (prepend_known held left) → NextIs form place (Err f) stream (prepend_known held left)
ended_fault form Bad place held stream left found gives kept = (kept, whole_bad form place stream held left kept found gives)
ended_fault form ReadFault place held stream left found gives kept = absurd gives
ended_fault form OutOfMemory place held stream left found gives kept = kept

-- the same of the last line
pub last_fault : {L : Type 0} (form : List ℕ → Option L) (f : LineFault) (place : ℕ) (held : List ℕ) (stream left : Option (List ℕ)) → HasNoEnd held → held ≢ []
    → GivesLine (Err f) (line_at form place held)
    → Keeps stream (prepend_known held left) → IsAtEnd left → NextIs form place (Err f) stream (prepend_known held left)
last_fault form Bad place held stream left none some gives kept end = (kept, last_bad form place stream held left kept none some end gives)
last_fault form ReadFault place held stream left none some gives kept end = absurd gives
last_fault form OutOfMemory place held stream left none some gives kept end = kept

-- a line that is too long
pub long_fault : {L : Type 0} (form : List ℕ → Option L) (place : ℕ) (held : List ℕ) (stream left : Option (List ℕ)) → Keeps stream (prepend_known held left)
    → IsFront (Ok TooLong) held left → NextIs form place (Err Bad) stream (prepend_known held left)
long_fault form place held stream left kept front = (kept, long_bad form place stream held left kept front.0 front.1)
