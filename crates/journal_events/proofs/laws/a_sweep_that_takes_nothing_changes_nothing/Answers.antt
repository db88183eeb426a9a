use Rattle.journal_events.proofs.QuietLemmas.{quiet}
use Rattle.journal_events.proofs.laws.a_sweep_that_takes_nothing_changes_nothing.Goals as goal

pub returns : goal.returns
returns c = quiet
