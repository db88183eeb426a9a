-- A source of bytes in memory.
use Rattle.std.specs.Prelude.{ℕ, min, List, length, None, Some, slice_get}
use Rattle.m2m_io.specs.Counts.{Calls}

-- the bytes that are left, the most that each read gives, in order of the calls, and the calls so
-- far
pub record SourceData : Type 0 where
  pub left : List ℕ
  pub cuts : List ℕ
  pub calls : Calls

-- how many bytes the read after these calls gives where there is room for so many: as many as are
-- left, and at most its cut, where it has one
abbrev pub next_count : SourceData → ℕ → ℕ
next_count source room = elim (slice_get source.cuts source.calls.made) [
  | None ↦ min room (length source.left)
  | Some cut ↦ min cut (min room (length source.left))
]
