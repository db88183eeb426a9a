use Rattle.guard_laws.proofs.HistoryLemmas.{entry_steps}
use Rattle.guard_laws.proofs.laws.the_entries_of_a_history_are_its_steps.Goals as goal

pub returns : goal.returns
returns c = λ opening e earlier later. entry_steps earlier later opening e
