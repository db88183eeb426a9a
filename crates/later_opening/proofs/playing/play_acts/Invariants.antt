use Rattle.std.proofs.Common.{◌≤◌, ◌-◌, length}
use Rattle.later_opening.specs.Playing.{PlaysActs}
use Rattle.later_opening.proofs.playing.play_acts.Given as goal

-- the acts up to a place are played
abbrev pub invariant-acts : goal.invariant-acts
invariant-acts g l = record {
  within : l.at ≤ length l.bytes;
  plays : PlaysActs l.bytes l.from l.at l.fn.entity l.entity l.requests;
}

abbrev pub decreases-acts : goal.decreases-acts
decreases-acts g l = length l.bytes - l.at
