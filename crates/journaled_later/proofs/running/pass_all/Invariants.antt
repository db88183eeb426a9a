use Rattle.std.proofs.Common.{◌-◌, ◌&&◌, ◌||◌, length}
use Rattle.std.specs.Prelude.{nat_lt}
use Rattle.later_replies.specs.Entries.{LaterEntryData, does_wait}
use Rattle.journaled_later.proofs.RunLemmas.{RecordedSoFar}
use Rattle.journaled_later.proofs.running.pass_all.Given as goal

abbrev pub invariant-each : goal.invariant-each
invariant-each g l =
    RecordedSoFar l.reading (λ (e : LaterEntryData). does_wait e && (l.runs_all || nat_lt e.accepted l.moment)) l.place l.kept l.initial.entries.items l.initial.entity l.initial.lines.items
    l.entries.items l.entity l.lines.items

abbrev pub decreases-each : goal.decreases-each
decreases-each g l = length l.initial.entries.items - l.place
