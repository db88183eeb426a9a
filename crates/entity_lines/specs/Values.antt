-- Counts, and lists of them, as values.
use Rattle.std.specs.Prelude.{ℕ, pos, List, [], ◌∷◌, unwrap_or}
use Rattle.m2m_value.specs.Data.{Data, elements_of, list, number}
use Rattle.m2m_value.specs.View.{as_list}

-- a count as a value
abbrev pub count_data : ℕ → Data
count_data n = number (pos n)

-- two and three values as a list
abbrev pub pair_data : Data → Data → Data
pair_data a b = list (elements_of (a ∷ b ∷ []))

abbrev pub triple_data : Data → Data → Data → Data
triple_data a b c = list (elements_of (a ∷ b ∷ c ∷ []))

-- the values of a list; any other value has none
abbrev pub values_in : Data → List Data
values_in d = unwrap_or (as_list d) []
