use Rattle.journal_opening.proofs.JournalLemmas.{deed_is_batch, header_opens, journal_grows}
use Rattle.journal_opening.proofs.laws.journals_grow.Goals as goal

pub returns-clause-first : goal.returns-clause-first
returns-clause-first c = header_opens

pub returns-clause-more : goal.returns-clause-more
returns-clause-more c = journal_grows

pub returns-clause-batches : goal.returns-clause-batches
returns-clause-batches c = deed_is_batch
