-- The lines of a deed, and how they are read.
use Rattle.std.specs.Prelude.{◌≡◌, ℕ, ◌+◌, ◌^◌, ◌==◌, nat_eq, nat_le, nat_lt, Bool, true, false}
use Rattle.std.specs.Prelude.{not, ◌&&◌, decimal}
use Rattle.std.specs.Prelude.{List, [], ◌∷◌, ◌++◌, length, take, drop, codes, bytes_eq, Option}
use Rattle.std.specs.Prelude.{Some, None, is_some, option_map, option_and_then, if◌then◌else◌}
use Rattle.std.specs.List.{list_all, position_or_len, starts_with}
use Rattle.std.specs.Option.{option_map_or}
use Rattle.std.specs.Result.{result_ok}
use Rattle.m2m_value.specs.Reading.{reading}
use Rattle.m2m_value.specs.Spelling.{text_of}
use Rattle.primitive_json.specs.Kinds.{number_spelled}
use Rattle.primitive_json.specs.Reading.{read_request}
use Rattle.primitive_json.specs.Writing.{written_request}
use Rattle.primitive_json.specs.declared.request.RequestParts.{RequestParts}
use Rattle.journal_lines.specs.declared.deed.Deed.{Deed}
use Rattle.journal_lines.specs.declared.deed.Deed.TheVariants.{Ask, Take, Tick}
use Rattle.journal_lines.specs.declared.deed.Dated.{Dated}

-- ---- what is written

-- the word of a deed: a request is a primitive (TS-0004, 8.2.2)
abbrev pub word_of : Deed → List ℕ
word_of (Ask request) = text_of (written_request request)
word_of Take = codes "take"
word_of Tick = codes "tick"

-- the line of a moment, without its end: `@` and its digits
abbrev pub moment_line : ℕ → List ℕ
moment_line moment = 64 ∷ decimal moment

-- a line with its end, LF
abbrev pub ended : List ℕ → List ℕ
ended line = line ++ 10 ∷ []

-- a deed at a moment as two lines, as they stand in journals and in snapshots
abbrev pub dated_lines : ℕ → Deed → List ℕ
dated_lines moment deed = ended (moment_line moment) ++ ended (word_of deed)

-- what stands in front of each deed of a journal: `@`, the number of the format of journals, and
-- `:`. It stands there since a journal may begin with a snapshot, which has a number of its own.
abbrev pub deed_mark : List ℕ
deed_mark = codes "@2:"

-- the lines of a deed of a journal: the mark, and these two
abbrev pub lines_of : ℕ → Deed → List ℕ
lines_of moment deed = deed_mark ++ dated_lines moment deed

-- a moment has at most 18 digits
abbrev pub moment_bound : ℕ
moment_bound = 10 ^ 18

-- ---- what is read

-- where the first line of a text ends, or the length where none does
abbrev pub line_len : List ℕ → ℕ
line_len text = position_or_len (λ b. b == 10) text

-- a line ends in the text
abbrev pub has_line : List ℕ → Bool
has_line text = nat_lt (line_len text) (length text)

-- the first line, without its end, and what stands behind it
abbrev pub first_line : List ℕ → List ℕ
first_line text = take (line_len text) text

abbrev pub behind_line : List ℕ → List ℕ
behind_line text = drop (line_len text + 1) text

-- the moment of a line, if it is one
abbrev pub moment_of : List ℕ → Option ℕ
moment_of [] = None
moment_of (b ∷ digits) = if b == 64 then number_spelled digits else None

-- the request that a JSON text is
abbrev pub request_spelled : List ℕ → Option RequestParts
request_spelled text = option_and_then (λ d. result_ok (read_request d)) (result_ok (reading text))

-- the deed of a word, if it is one
abbrev pub deed_of : List ℕ → Option Deed
deed_of word =
    if bytes_eq word (codes "take") then Some Take
    else if bytes_eq word (codes "tick") then Some Tick
    else option_map Ask (request_spelled word)

-- a deed at a moment
abbrev pub deed_at : ℕ → Deed → Dated
deed_at moment deed = record { moment = moment; deed = deed }

-- two lines as a deed, if they are one
abbrev pub deed_in : List ℕ → List ℕ → Option Dated
deed_in stamp word =
    option_and_then (λ moment. option_map (deed_at moment) (deed_of word)) (moment_of stamp)

-- the deed at a moment whose two lines stand at the front of a text
abbrev pub first_dated : List ℕ → Option Dated
first_dated text =
    if has_line text && has_line (behind_line text)
    then deed_in (first_line text) (first_line (behind_line text)) else None

-- how many bytes these lines have
abbrev pub dated_len : List ℕ → ℕ
dated_len text = line_len text + 1 + (line_len (behind_line text) + 1)

-- the deed of a journal whose lines stand at the front of a text, and how many bytes they have
abbrev pub first_deed : List ℕ → Option Dated
first_deed text =
    if starts_with nat_eq text deed_mark then first_dated (drop 3 text) else None

abbrev pub deed_len : List ℕ → ℕ
deed_len text = 3 + dated_len (drop 3 text)

-- A deed of a journal of the format 1 begins a text: it has no mark, so that the first line is its
-- moment.
abbrev pub begins_unmarked : List ℕ → Bool
begins_unmarked text = is_some (moment_of (first_line text))

-- ---- what holds of both

-- a byte that may stand inside a line
abbrev pub is_inner : ℕ → Bool
is_inner b = nat_le 32 b

-- The deed is read from its word.
abbrev pub IsReadBack : Deed → Type 0
IsReadBack deed = deed_of (word_of deed) ≡ Some deed
