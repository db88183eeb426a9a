-- What stands at the front of a stream of lines.
use Rattle.std.specs.Prelude.{◌≡◌, ◌≢◌, ◌+◌, ◌<◌, ℕ, ◌==◌, Bool, List, [], length}
use Rattle.std.specs.Prelude.{Option, ⊤}
use Rattle.std.specs.declared.result.Result.{Result}
use Rattle.std.specs.declared.result.Result.TheVariants.{Ok, Err}
use Rattle.std.specs.List.{position_or_len}
use Rattle.std.specs.Io.KnownBytes.{IsAtEnd}
pub use Rattle.http_frames.specs.Waiting.{piece_limit}
use Rattle.primitive_replay.specs.Lines.{line_limit}
use Rattle.primitive_replay.specs.declared.fault.LineFault.{LineFault}
use Rattle.primitive_replay.specs.declared.fault.LineFault.TheVariants.{Bad, ReadFault, OutOfMemory}
use Rattle.primitive_replay.specs.declared.front.Front.{Front}
use Rattle.primitive_replay.specs.declared.front.Front.TheVariants.{Whole, Last, TooLong, End}

-- bytes without an end that may begin a line are at most so many: those of the longest, and CR
abbrev pub short_limit : ℕ
short_limit = line_limit + 1

-- so many bytes are held at most
abbrev pub held_limit : ℕ
held_limit = short_limit + piece_limit

-- the byte that ends a line, LF
abbrev pub is_end : ℕ → Bool
is_end b = b == 10

-- where the first line ends, or the length where none does
abbrev pub end_of : List ℕ → ℕ
end_of bytes = position_or_len is_end bytes

-- no line ends in the bytes
abbrev pub HasNoEnd : List ℕ → Type 0
HasNoEnd bytes = end_of bytes ≡ length bytes

-- What stands at the front of a stream, of which these bytes are held and these are left to read:
-- a line that ends at a place; a last one without its end; one that is longer than any may be; or
-- nothing. After a fault none has ended.
abbrev pub IsFront : Result Front LineFault → List ℕ → Option (List ℕ) → Type 0
IsFront (Ok (Whole at)) held left = (at ≡ end_of held) × (at < length held)
IsFront (Ok Last) held left = HasNoEnd held × (held ≢ []) × IsAtEnd left
IsFront (Ok TooLong) held left = HasNoEnd held × (short_limit < length held)
IsFront (Ok End) held left = (held ≡ []) × IsAtEnd left
IsFront (Err Bad) held left = ⊤
IsFront (Err ReadFault) held left = HasNoEnd held
IsFront (Err OutOfMemory) held left = HasNoEnd held

-- What stands at the front of the bytes that are held, once nothing is left to read.
abbrev pub IsFrontAtEnd : List ℕ → Front → Type 0
IsFrontAtEnd held (Whole at) = ⊥
IsFrontAtEnd held Last = held ≢ []
IsFrontAtEnd held TooLong = ⊥
IsFrontAtEnd held End = held ≡ []
