-- The bytes of a text.
use Rattle.std.specs.Prelude.{ℕ, List, ◌≤◌, take}
use Rattle.m2m_value.specs.declared.text.Place.{Place}
use Rattle.m2m_value.specs.declared.text.Place.TheVariants.{Inside, Outside}

-- those in front of the room in the value, or those with memory of their own
abbrev pub bytes_at : Place → List ℕ
bytes_at (Inside len bytes) = take len bytes
bytes_at (Outside bytes) = bytes.items

-- no more than there is room for
abbrev pub IsPlace : Place → Type 0
IsPlace (Inside len bytes) = len ≤ 30
IsPlace (Outside bytes) = Unit {0}
