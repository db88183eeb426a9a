use Rattle.journal_opening.proofs.JournalLemmas.{snapshot_opens}
use Rattle.journal_opening.proofs.laws.a_snapshot_is_a_journal.Goals as goal

pub returns : goal.returns
returns c = snapshot_opens
