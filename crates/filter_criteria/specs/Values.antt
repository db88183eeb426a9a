-- Members of an object by their names, the object of the members that are there, and the kinds of
-- values that filters share with the primitives around them (TS-0004, 8.2.2 and 8.2.5).
use Rattle.std.specs.Prelude.{ℕ, Bool, pos, List, [], Option, Some, None}
use Rattle.std.specs.Prelude.{if◌then◌else◌, option_map, unwrap_or}
use Rattle.std.specs.List.{filter_map}
use Rattle.m2m_names.specs.Stamps.{timestamp}
use Rattle.m2m_names.specs.Types.{is_type_number}
use Rattle.m2m_value.specs.Data.{Data, number, text, object, Entry, pairs_of}
use Rattle.m2m_value.specs.Shapes.{as_count}
use Rattle.m2m_value.specs.View.{as_object}

-- the value, where it passes the test
abbrev pub where_it : {A : Type 0} → (A → Bool) → Option A → Option A
where_it test None = None
where_it test (Some a) = if test a then Some a else None

-- the members of a value: none where it is no object
abbrev pub members_in : Data → List Entry
members_in d = unwrap_or (as_object d) []

-- the number of a resource type
abbrev pub read_type_number : Data → Option ℕ
read_type_number d = where_it is_type_number (as_count d)

-- ---- the members that are there

-- a name, and the value that is to stand there, if any
abbrev pub NamedValue : Type 0
NamedValue = List ℕ × Option Data

-- The entry of a name, where a value is to stand there.
abbrev pub entry_there : NamedValue → Option Entry
entry_there row = option_map (λ d. (row.0, d)) row.1

-- the entries of those that are there
abbrev pub present : List NamedValue → List Entry
present rows = filter_map entry_there rows

-- The object of those members that are there.
abbrev pub object_of : List NamedValue → Data
object_of rows = object (pairs_of (present rows))

-- ---- what is written of a part

-- A count is written as a JSON number.
abbrev pub count_data : ℕ → Data
count_data n = number (pos n)

-- A moment is written as a JSON text that holds its timestamp (TS-0004, 6.3.3).
abbrev pub moment_data : ℕ → Data
moment_data at = text (timestamp at)
