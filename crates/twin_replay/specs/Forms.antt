-- The lines of `twin`: what a text on each of them is, by where it stands.
use Rattle.std.specs.Prelude.{ℕ, nat_eq, Bool, true, false, List, codes, drop, length}
use Rattle.std.specs.Prelude.{Option, Some, None, option_map, option_and_then, if◌then◌else◌}
use Rattle.std.specs.List.{starts_with}
use Rattle.std.specs.Option.{option_map_or}
use Rattle.std.specs.Str.{bytes_eq}
use Rattle.primitive_json.specs.declared.request.RequestParts.{RequestParts}
use Rattle.resource_model.specs.Home.{HomeData}
use Rattle.addressing.specs.Short.{short_of}
use Rattle.primitive_replay.specs.Lines.{line_read}
use Rattle.primitive_replay.specs.declared.line.Line.{Line}
use Rattle.primitive_replay.specs.declared.line.Line.TheVariants.{Empty, Reading, Ask}
use Rattle.twin_replay.specs.declared.lines.Part.{Part}
use Rattle.twin_replay.specs.declared.lines.Part.TheVariants.{Before, LeftSide, RightSide, Asking}
use Rattle.twin_replay.specs.declared.lines.TwinLine.{TwinLine}
use Rattle.twin_replay.specs.declared.lines.TwinLine.TheVariants.{OpensLeft, PreparesLeft}
use Rattle.twin_replay.specs.declared.lines.TwinLine.TheVariants.{OpensRight, PreparesRight}
use Rattle.twin_replay.specs.declared.lines.TwinLine.TheVariants.{Compares, AsksBoth}

-- ---- the marks

-- the line that opens the left side
abbrev pub left_mark : List ℕ
left_mark = codes "!left"

-- the line that opens the right side
abbrev pub right_mark : List ℕ
right_mark = codes "!right"

-- what stands before the originator that asks both sides
abbrev pub as_mark : List ℕ
as_mark = codes "!as "

-- ---- what a text is

-- before both sides: the left one opens
abbrev pub opening_line : List ℕ → Option TwinLine
opening_line text = if bytes_eq text left_mark then Some OpensLeft else None

-- on the left side: the right one opens, or the left one is prepared by a line that is replayed
abbrev pub left_line : List ℕ → Option TwinLine
left_line text =
    if bytes_eq text right_mark then Some OpensRight else option_map PreparesLeft (line_read text)

-- The text is an originator that is spelled in its own short form (TS-0001, 7.2).
abbrev pub is_own_short : HomeData → List ℕ → Bool
is_own_short home text =
    option_map_or (λ short. bytes_eq short text) (short_of home text) false

-- a name behind the mark: both sides are compared for it, where it is such an originator
abbrev pub comparing_line : HomeData → List ℕ → Option TwinLine
comparing_line home name = if is_own_short home name then Some (Compares name) else None

-- on the right side: both sides are compared for an originator, or the right one is prepared by a
-- line that is replayed
abbrev pub right_line : HomeData → List ℕ → Option TwinLine
right_line home text =
    if starts_with nat_eq text as_mark then comparing_line home (drop (length as_mark) text)
    else option_map PreparesRight (line_read text)

-- The request says that it is this originator's.
abbrev pub is_from : List ℕ → RequestParts → Bool
is_from originator request = option_map_or (λ fr. bytes_eq fr originator) request.fr false

-- a request: both sides are asked it, where it is this originator's
abbrev pub request_line : List ℕ → RequestParts → Option TwinLine
request_line originator request =
    if is_from originator request then Some (AsksBoth request) else None

-- of the lines that are replayed those alone that are requests of this originator
abbrev pub asked_on : List ℕ → Line → Option TwinLine
asked_on originator Empty = None
asked_on originator (Reading moment) = None
asked_on originator (Ask request) = request_line originator request

-- behind both sides: a request of the originator
abbrev pub asking_line : List ℕ → List ℕ → Option TwinLine
asking_line originator text = option_and_then (asked_on originator) (line_read text)

-- The form of the lines of a part.
abbrev pub form_of : HomeData → Part → List ℕ → Option TwinLine
form_of home Before text = opening_line text
form_of home LeftSide text = left_line text
form_of home RightSide text = right_line home text
form_of home (Asking originator) text = asking_line originator text

-- The originator is named, and requests alone come behind that.
abbrev pub is_asking : Part → Bool
is_asking Before = false
is_asking LeftSide = false
is_asking RightSide = false
is_asking (Asking originator) = true
