use Rattle.std.proofs.Common.{◌-◌, length}
use Rattle.accepted_requests.proofs.SizeLemmas.{SizedSoFar}
use Rattle.accepted_requests.proofs.list.results_size.Given as goal

abbrev pub invariant-each : goal.invariant-each
invariant-each l = SizedSoFar l.place l.kept l.entries

abbrev pub decreases-each : goal.decreases-each
decreases-each l = length l.entries - l.place
