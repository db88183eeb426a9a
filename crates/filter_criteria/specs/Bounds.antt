-- What the numbers of filters keep to.
use Rattle.std.specs.Prelude.{ℕ, ◌≤◌, ◌<◌}
use Rattle.m2m_names.specs.Ids.{count_bound}
use Rattle.m2m_names.specs.Stamps.{last_moment}

-- a moment that a timestamp has, in seconds since 1970 (TS-0004, 6.3.3)
abbrev pub IsMoment : ℕ → Type 0
IsMoment at = at ≤ last_moment

-- a whole number from 0 on that a number in JSON has here
abbrev pub IsCount : ℕ → Type 0
IsCount n = n < count_bound
