-- The milliseconds that a link has spent on hosts that were mute or slow.
use Rattle.std.specs.Prelude.{ℕ, ◌+◌, ◌-◌, ◌/◌, min}

-- what was spent by a moment, as it weighs at this one: in four milliseconds one of them is taken away
abbrev pub left : ℕ → ℕ → ℕ → ℕ
left spent at now = spent - (now - at) / 4

-- so much weighs, and so many are spent: no more than three seconds weigh
abbrev pub with_more : ℕ → ℕ → ℕ
with_more left millis = min (left + millis) 3000
