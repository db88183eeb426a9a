use Rattle.std.proofs.Common.{◌-◌, vec_len}
use Rattle.cse.proofs.worker_benches.Given as goal

abbrev pub decreases-loop-system : goal.decreases-loop-system
decreases-loop-system g l = l.count - vec_len l.benches
