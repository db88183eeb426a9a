-- The text of a Notify, one member after another.
use Rattle.std.specs.Prelude.{ℕ, ℤ, List, [], ◌∷◌, ◌++◌, flat_map, codes, Option, Some, None}
use Rattle.std.specs.Prelude.{option_map}
use Rattle.m2m_names.specs.Operations.{op_row}
use Rattle.m2m_names.specs.declared.operations.Op.{Op}
use Rattle.m2m_value.specs.Data.{Data, number, text}
use Rattle.m2m_value.specs.Spelling.{quoted, text_of}
use Rattle.filter_criteria.specs.Values.{NamedValue}

-- a name as the members of an object have it
abbrev pub head_of : List ℕ → List ℕ
head_of name = quoted name ++ 58 ∷ []

-- a value behind its head, where it is there, and a comma behind it
abbrev pub behind : List ℕ → Option Data → List ℕ
behind head None = []
behind head (Some d) = head ++ (text_of d ++ 44 ∷ [])

abbrev pub with_comma : NamedValue → List ℕ
with_comma row = behind (head_of row.0) row.1

-- members, a comma behind each that is there
abbrev pub with_commas : List NamedValue → List ℕ
with_commas rows = flat_map with_comma rows

-- the members of a Notify in byte order of their names: those up to its content, and those up to
-- its target
abbrev pub front_rows : Option ℤ → Option (List ℕ) → Op → Option Data → List NamedValue
front_rows drt fr op pc =
    (codes "drt", option_map number drt) ∷ (codes "fr", option_map text fr) ∷
    (codes "op", Some (number (op_row op).number)) ∷ (codes "pc", pc) ∷ []

abbrev pub back_rows : Option ℤ → Option Data → List ℕ → Option ℤ → List NamedValue
back_rows rcn rqet rqi rt =
    (codes "rcn", option_map number rcn) ∷ (codes "rqet", rqet) ∷
    (codes "rqi", Some (text rqi)) ∷ (codes "rt", option_map number rt) ∷ []

-- its target, the last member
abbrev pub target_text : List ℕ → List ℕ
target_text to = head_of (codes "to") ++ text_of (text to)
