use Rattle.std.proofs.Common.{◌≤◌, ◌-◌, length}
use Rattle.journal_opening.specs.Playing.{Plays}
use Rattle.journal_opening.proofs.playing.play_lines.Given as goal

-- the lines up to a place are played
abbrev pub invariant-deeds : goal.invariant-deeds
invariant-deeds g l = record {
  within : l.at ≤ length l.bytes;
  plays : Plays l.bytes l.from l.at l.fn.entity l.entity;
}

abbrev pub decreases-deeds : goal.decreases-deeds
decreases-deeds g l = length l.bytes - l.at
