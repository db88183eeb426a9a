-- The first line of a journal: the number of the format, the home that the journal is of, and the
-- reading at which the entity opened.
use Rattle.std.specs.Prelude.{ℕ, ◌==◌, nat_lt, pos, Bool, false, not, List, [], ◌∷◌, codes}
use Rattle.std.specs.Prelude.{Option, option_and_then, Result, Ok, Err}
use Rattle.std.specs.Prelude.{if◌then◌else◌, ◌≡◌, ◌⊎◌, ok_or}
use Rattle.std.specs.Option.{option_map_or}
use Rattle.std.specs.Result.{result_ok}
use Rattle.m2m_value.specs.Data.{Data, Entry, number, object, pairs_of, text}
use Rattle.m2m_value.specs.Reading.{reading}
use Rattle.m2m_value.specs.Same.{same}
use Rattle.m2m_value.specs.Shapes.{as_count}
use Rattle.m2m_value.specs.Spelling.{text_of}
use Rattle.m2m_value.specs.View.{member_of}
use Rattle.filter_criteria.specs.Values.{members_in, where_it}
use Rattle.resource_model.specs.Home.{HomeData}
use Rattle.journal_lines.specs.Lines.{ended, first_line, has_line, moment_bound}
use Rattle.journal_lines.specs.declared.header.HeaderFault.{HeaderFault}
use Rattle.journal_lines.specs.declared.header.HeaderFault.TheVariants.{NoHeader, OtherFormat}
use Rattle.journal_lines.specs.declared.header.HeaderFault.TheVariants.{OtherHome, OutOfMemory}

-- ---- what is written

-- the number of the format of journals, which is that of their deeds
abbrev pub format : ℕ
format = 2

-- the names of the members
abbrev pub format_name : List ℕ
format_name = codes "format"

abbrev pub home_name : List ℕ
home_name = codes "home"

abbrev pub opened_name : List ℕ
opened_name = codes "opened"

-- a home as an object
abbrev pub home_members : HomeData → List Entry
home_members home =
    (codes "admin", text home.admin) ∷ (codes "base", text home.base)
    ∷ (codes "csi", text home.csi) ∷ (codes "cst", number home.cst)
    ∷ (codes "sp", text home.sp) ∷ []

abbrev pub home_data : HomeData → Data
home_data home = object (pairs_of (home_members home))

-- the header as an object
abbrev pub header_members : HomeData → ℕ → List Entry
header_members home opened =
    (format_name, number (pos format)) ∷ (home_name, home_data home)
    ∷ (opened_name, number (pos opened)) ∷ []

abbrev pub header_data : HomeData → ℕ → Data
header_data home opened = object (pairs_of (header_members home opened))

-- the line of a header, with its end
abbrev pub header_of : HomeData → ℕ → List ℕ
header_of home opened = ended (text_of (header_data home opened))

-- ---- what is read

-- the number of its format
abbrev pub format_in : Data → Option ℕ
format_in d = option_and_then as_count (member_of format_name (members_in d))

-- It is of this home.
abbrev pub is_of_home : HomeData → Data → Bool
is_of_home home d = option_map_or (same (home_data home)) (member_of home_name (members_in d)) false

-- a reading has at most 18 digits
abbrev pub is_short : ℕ → Bool
is_short reading = nat_lt reading moment_bound

-- the reading at which the entity opened
abbrev pub opened_in : Data → Option ℕ
opened_in d = where_it is_short (option_and_then as_count (member_of opened_name (members_in d)))

-- what a value of this format says as the header of a journal of a home
abbrev pub header_at_home : HomeData → Data → Result ℕ HeaderFault
header_at_home home d =
    if not (is_of_home home d) then Err OtherHome else ok_or (opened_in d) NoHeader

-- what a value of a format says
abbrev pub header_by : HomeData → Data → ℕ → Result ℕ HeaderFault
header_by home d found =
    if found == format then header_at_home home d else Err OtherFormat

-- what a value says
abbrev pub header_in : HomeData → Data → Result ℕ HeaderFault
header_in home d = option_map_or (header_by home d) (format_in d) (Err NoHeader)

-- what a line says
abbrev pub header_spelled : HomeData → List ℕ → Result ℕ HeaderFault
header_spelled home line =
    option_map_or (header_in home) (result_ok (reading line)) (Err NoHeader)

-- what the first line of a text says
abbrev pub first_header : HomeData → List ℕ → Result ℕ HeaderFault
first_header home bytes =
    if has_line bytes then header_spelled home (first_line bytes) else Err NoHeader

-- ---- what is answered

-- The answer is the one that is told, unless memory ran out.
abbrev pub Tells : {A : Type 0} → (A → ℕ) → Result A HeaderFault → Result ℕ HeaderFault → Type 0
Tells seen (Ok a) told = told ≡ Ok (seen a)
Tells seen (Err fault) told = (fault ≡ OutOfMemory) ⊎ (told ≡ Err fault)
