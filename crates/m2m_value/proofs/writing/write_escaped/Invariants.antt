use Rattle.std.proofs.Common.{◌≡◌, ◌++◌, ◌-◌, ◌≤◌, drop, flat_map, length}
use Rattle.m2m_value.specs.Sound.{BeginsWith}
use Rattle.m2m_value.specs.Spelling.{escaped}
use Rattle.m2m_value.proofs.writing.write_escaped.Given as goal

abbrev pub invariant-loop-out : goal.invariant-loop-out
invariant-loop-out l =
    (l.at ≤ length l.text)
    × (l.out.items ++ flat_map escaped (drop l.at l.text) ≡ l.fn.out.items ++ flat_map escaped l.text)
    × BeginsWith l.fn.out.items l.out.items

abbrev pub decreases-loop-out : goal.decreases-loop-out
decreases-loop-out l = length l.text - l.at
