-- A clock in memory.
use Rattle.std.specs.Prelude.{ℕ, zero, suc, ◌-◌, min, List, [], ◌∷◌, ◌++◌, length, slice_index}
use Rattle.std.specs.Prelude.{Option, None, Some, if◌then◌else◌}
use Rattle.m2m_io.specs.Counts.{is_exact}

-- the readings that a clock is to give, and how many calls it has had
pub record ClockData : Type 0 where
  pub set : List ℕ
  pub made : ℕ

-- the reading after k others: the last one is repeated, and without any it is 0
abbrev pub reading_after : List ℕ → ℕ → ℕ
reading_after set k = slice_index set (min k (length set - 1))

-- the first so many readings, in order
abbrev pub first_readings : List ℕ → ℕ → List ℕ
first_readings set zero = []
first_readings set (suc k) = first_readings set k ++ reading_after set k ∷ []

-- the readings given so far, told while the calls can be counted
abbrev pub told_readings : ClockData → Option (List ℕ)
told_readings clock =
    if is_exact clock.made then Some (first_readings clock.set clock.made) else None
