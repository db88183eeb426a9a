use Rattle.std.proofs.Common.{◌-◌, length}
use Rattle.later_opening.proofs.SnapshotLemmas.{PutSoFar}
use Rattle.later_opening.proofs.snapshot.push_entries.Given as goal

-- so many are put
abbrev pub invariant-each : goal.invariant-each
invariant-each l = PutSoFar l.moment l.place l.entries l.last l.initial.text.items l.text.items

abbrev pub decreases-each : goal.decreases-each
decreases-each l = length l.entries - l.place
