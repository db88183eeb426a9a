use Rattle.journaled_later.proofs.MachineLemmas.{one_of_later}
use Rattle.journaled_later.proofs.laws.each_event_is_one_of_later.Goals as goal

pub returns : goal.returns
returns c = one_of_later
