use Rattle.journal_events.proofs.LossLemmas.{item_stays}
use Rattle.journal_events.proofs.laws.an_item_stays_until_it_was_sent.Goals as goal

pub returns : goal.returns
returns c = item_stays
