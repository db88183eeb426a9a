use Rattle.std.proofs.Common.{◌≡◌, ◌≤◌, ◌-◌, ◌++◌, length, drop}
use Rattle.http_target.specs.Targets.{with_tildes}
use Rattle.http_target.proofs.target.with_tildes.Given as goal

-- the text so far, and that of what is left
abbrev pub invariant-loop-at : goal.invariant-loop-at
invariant-loop-at l =
    (l.at ≤ length l.path) × (l.text.items ++ with_tildes (drop l.at l.path) ≡ with_tildes l.path)

abbrev pub decreases-loop-at : goal.decreases-loop-at
decreases-loop-at l = length l.path - l.at
