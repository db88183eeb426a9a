use Rattle.journal_events.proofs.MachineLemmas.{one_of_machine}
use Rattle.journal_events.proofs.laws.each_event_is_one_of_the_machine.Goals as goal

pub returns : goal.returns
returns c = one_of_machine
