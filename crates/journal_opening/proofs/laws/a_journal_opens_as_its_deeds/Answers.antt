use Rattle.journal_opening.proofs.ReadingLemmas.{journal_opens}
use Rattle.journal_opening.proofs.laws.a_journal_opens_as_its_deeds.Goals as goal

pub returns : goal.returns
returns c = journal_opens
