use Rattle.later_opening.proofs.ReadingLemmas.{later_journal_opens}
use Rattle.later_opening.proofs.laws.a_journal_opens_as_its_acts.Goals as goal

pub returns : goal.returns
returns c = later_journal_opens
