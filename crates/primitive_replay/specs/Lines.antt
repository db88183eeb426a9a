-- Lines of a form: what each of them is, and which are bad; and the form of the lines of `replay`.
-- The lines of a text are those that Rust's `lines` gives: LF ends a line, one CR before it isn't
-- part of the line, and the last line may lack its end.
use Rattle.std.specs.Prelude.{◌≡◌, ℕ, ◌==◌, nat_le, ◌&&◌, List, [], ◌∷◌, length, Option}
use Rattle.std.specs.Prelude.{Some, None, Result, Ok, Err, if◌then◌else◌, option_map}
use Rattle.std.specs.Prelude.{option_and_then, ⊤}
use Rattle.std.specs.Result.{result_ok}
use Rattle.m2m_value.specs.Data.{Data}
use Rattle.m2m_value.specs.Reading.{reading}
use Rattle.primitive_json.specs.Kinds.{number_spelled}
use Rattle.primitive_json.specs.Reading.{read_request}
use Rattle.primitive_json.specs.declared.request.RequestParts.{RequestParts}
use Rattle.primitive_replay.specs.declared.fault.LineFault.{LineFault}
use Rattle.primitive_replay.specs.declared.fault.LineFault.TheVariants.{Bad, ReadFault, OutOfMemory}
use Rattle.primitive_replay.specs.declared.line.Line.{Line}
use Rattle.primitive_replay.specs.declared.line.Line.TheVariants.{Empty, Reading, Ask}

-- the most bytes of a line, without its end
abbrev pub line_limit : ℕ
line_limit = 131072

-- the most lines
abbrev pub most_lines : ℕ
most_lines = 1000000

-- the request that a value is (TS-0004, 8.2.2)
abbrev pub request_of_value : Data → Option RequestParts
request_of_value value = result_ok (read_request value)

-- the request that a JSON text is
abbrev pub request_of_text : List ℕ → Option RequestParts
request_of_text text = option_and_then request_of_value (result_ok (reading text))

-- what a line is: nothing stands on it; or `@` (64) and a reading; or a request
abbrev pub line_read : List ℕ → Option Line
line_read [] = Some Empty
line_read (b ∷ text) =
    if b == 64 then option_map Reading (number_spelled text)
    else option_map Ask (request_of_text (b ∷ text))

-- what the line at a place, from 1, is, where lines have this form: none where it is bad, as it
-- hasn't the form, or has too many bytes, or stands behind the last line that there may be
abbrev pub line_at : {L : Type 0} → (List ℕ → Option L) → ℕ → List ℕ → Option L
line_at form place text =
    if nat_le place most_lines && nat_le (length text) line_limit then form text else None

-- what a line is told to be, unless memory runs out
abbrev pub GivesLine : {L : Type 0} → Result L LineFault → Option L → Type 0
GivesLine (Ok line) told = told ≡ Some line
GivesLine (Err Bad) told = told ≡ None
GivesLine (Err ReadFault) told = ⊥
GivesLine (Err OutOfMemory) told = ⊤
