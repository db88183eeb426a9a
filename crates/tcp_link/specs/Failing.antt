-- How long a mute destination is left alone, and when the faults of one are said.
use Rattle.std.specs.Prelude.{ℕ, ◌+◌, ◌-◌, ◌*◌, ◌^◌, min, max, Bool, ◌||◌, ◌&&◌, nat_lt, nat_le}

-- a moment so much later, in milliseconds, up to the last one
abbrev pub later : ℕ → ℕ → ℕ
later now millis = min (now + millis) (2 ^ 64 - 1)

-- How long a destination is left alone that is mute, and was left alone so long before: a second,
-- and twice as long each time, up to a minute.
abbrev pub next_wait : ℕ → ℕ
next_wait wait = min (max 1000 (2 * wait)) 60000

-- the faults of a destination may be said again after a minute
abbrev pub silence : ℕ
silence = 60000

-- there are faults that weren't said, and the moment has come at which they may be
abbrev pub is_due : ℕ → ℕ → ℕ → Bool
is_due failed silent_until now = nat_lt 0 failed && nat_le silent_until now

-- A destination is left alone, or was before, or has faults to be said, or none may be said yet.
abbrev pub has_failed : ℕ → ℕ → ℕ → ℕ → Bool
has_failed wait failed silent_until now =
    nat_lt 0 wait || nat_lt 0 failed || nat_lt now silent_until
