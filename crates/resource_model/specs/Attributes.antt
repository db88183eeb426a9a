-- Lists of attributes, each with its value.
use Rattle.std.specs.Prelude.{◌≡◌, ℕ, ◌+◌, ◌<◌, ◌≤◌, List, ◌∷◌, ◌++◌, length, take, drop, filter}
use Rattle.std.specs.Prelude.{slice_index_or, Bool, ◌&&◌, bytes_eq, Option, Some, None}
use Rattle.std.specs.Prelude.{option_and_then}
use Rattle.std.specs.List.Sorted.{IsStrictlySortedBy}
use Rattle.std.specs.Map.{keys_of, lookup}
use Rattle.std.specs.Ordering.{is_eq, is_lt}
use Rattle.m2m_names.specs.Attributes.{attr_short}
pub use Rattle.m2m_names.specs.Attributes.{attr_cmp}
use Rattle.m2m_names.specs.declared.attributes.Attr.{Attr}
use Rattle.m2m_value.specs.Data.{Data}
use Rattle.m2m_value.specs.Same.{same}
use Rattle.m2m_value.specs.Shapes.{as_count}
pub use Rattle.m2m_value.specs.Shapes.{count_of}
use Rattle.m2m_value.specs.View.{as_text}

-- an attribute and its value
abbrev pub Row : Type 0
Row = Attr × Data

-- two are one attribute
abbrev pub is_attr : Attr → Attr → Bool
is_attr a b = is_eq (attr_cmp a b)

-- attributes stand in byte order of their short names, and so each stands once (TS-0004, 8.2.3)
abbrev pub AreInOrder : List Row → Type 0
AreInOrder rows = IsStrictlySortedBy attr_cmp (keys_of rows)

-- the value of an attribute
abbrev pub value_of : Attr → List Row → Option Data
value_of a rows = lookup (is_attr a) rows

-- the rows before an attribute, and those after it
abbrev pub rows_before : Attr → List Row → List Row
rows_before a rows = filter (λ row. is_lt (attr_cmp row.0 a)) rows

abbrev pub rows_after : Attr → List Row → List Row
rows_after a rows = filter (λ row. is_lt (attr_cmp a row.0)) rows

-- the rows in which an attribute has this value
abbrev pub with_value : Attr → Data → List Row → List Row
with_value a d rows = rows_before a rows ++ (a, d) ∷ rows_after a rows

-- the rows in which an attribute has no value
abbrev pub without_value : Attr → List Row → List Row
without_value a rows = rows_before a rows ++ rows_after a rows

-- the value as a count, and as a text
abbrev pub count_at : Attr → List Row → Option ℕ
count_at a rows = option_and_then as_count (value_of a rows)

abbrev pub text_at : Attr → List Row → Option (List ℕ)
text_at a rows = option_and_then as_text (value_of a rows)

-- the attribute's row stands at this place
pub record HoldsRow (a : Attr) (rows : List Row) (i : ℕ) : Type 0 where
  pub within : i < length rows
  pub before : rows_before a rows ≡ take i rows
  pub after : rows_after a rows ≡ drop (i + 1) rows
  pub value : (d : Row) → value_of a rows ≡ Some (slice_index_or rows i d).1

-- the attribute has no row, and one would stand at this place
pub record LacksRow (a : Attr) (rows : List Row) (i : ℕ) : Type 0 where
  pub within : i ≤ length rows
  pub before : rows_before a rows ≡ take i rows
  pub after : rows_after a rows ≡ drop i rows
  pub value : value_of a rows ≡ None

-- two rows are equal: their attributes have one short name, and their values are equal
abbrev pub same_row : Row → Row → Bool
same_row x y = bytes_eq (attr_short x.0) (attr_short y.0) && same x.1 y.1
