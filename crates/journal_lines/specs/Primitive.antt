-- The text of a request without a filter, one member after another (TS-0004, 8.2.2).
use Rattle.std.specs.Prelude.{ℕ, List, [], ◌∷◌, ◌++◌, flat_map, codes, Option, Some, None}
use Rattle.std.specs.Prelude.{IfSome, ⊤, option_map}
use Rattle.m2m_names.specs.Operations.{op_row}
use Rattle.m2m_names.specs.declared.operations.Op.{Op}
use Rattle.m2m_value.specs.Data.{Data, number, text}
use Rattle.m2m_value.specs.Sound.{IsSound}
use Rattle.m2m_value.specs.Spelling.{quoted, text_of}
use Rattle.filter_criteria.specs.Values.{NamedValue, count_data}
use Rattle.primitive_json.specs.Writing.{expiry_data}
use Rattle.primitive_json.specs.declared.request.RequestParts.{RequestParts}

-- a name as the members of an object have it
abbrev pub head_of : List ℕ → List ℕ
head_of name = quoted name ++ 58 ∷ []

-- a value behind its head, where it is there, and a comma behind it
abbrev pub behind : List ℕ → Option Data → List ℕ
behind head None = []
behind head (Some d) = head ++ (text_of d ++ 44 ∷ [])

abbrev pub with_comma : NamedValue → List ℕ
with_comma row = behind (head_of row.0) row.1

-- members, a comma behind each that is there
abbrev pub with_commas : List NamedValue → List ℕ
with_commas rows = flat_map with_comma rows

-- the number of an operation, as a JSON number
abbrev pub operation_data : Op → Data
operation_data op = number (op_row op).number

-- the members in byte order of their names: those up to the content, and those up to the target
abbrev pub front_rows : RequestParts → List NamedValue
front_rows r =
    (codes "drt", option_map number r.drt) ∷ (codes "fr", option_map text r.fr) ∷
    (codes "op", Some (operation_data r.op)) ∷ (codes "pc", r.pc) ∷ []

abbrev pub back_rows : RequestParts → List NamedValue
back_rows r =
    (codes "rcn", option_map number r.rcn) ∷ (codes "rqet", option_map expiry_data r.rqet) ∷
    (codes "rqi", Some (text r.rqi)) ∷ (codes "rt", option_map number r.rt) ∷ []

-- the target, and behind it the number of the type that is created
abbrev pub target_text : List ℕ → List ℕ
target_text to = head_of (codes "to") ++ text_of (text to)

abbrev pub type_data : RequestParts → Option Data
type_data r = option_map count_data r.ty

abbrev pub type_text : Option Data → List ℕ
type_text None = []
type_text (Some d) = 44 ∷ (head_of (codes "ty") ++ text_of d)

-- each value that is there is sound
abbrev pub AreSoundRows : List NamedValue → Type 0
AreSoundRows [] = ⊤
AreSoundRows (row ∷ rows) = IfSome row.1 IsSound × AreSoundRows rows
