use Rattle.machine_laws.proofs.AlikeLemmas.{none_polls}
use Rattle.machine_laws.proofs.laws.a_poll_has_the_segment_of_a_poll_point.Goals as goal

pub returns : goal.returns
returns c = none_polls
