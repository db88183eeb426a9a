use Rattle.journal_events.proofs.LossLemmas.{told_stays}
use Rattle.journal_events.proofs.laws.what_is_told_stays.Goals as goal

pub returns : goal.returns
returns c = told_stays
