use Rattle.later_opening.proofs.JournalLemmas.{journal_grows, plain_journal}
use Rattle.later_opening.proofs.laws.journals_grow.Goals as goal

pub returns-clause-more : goal.returns-clause-more
returns-clause-more c = journal_grows

pub returns-clause-plain : goal.returns-clause-plain
returns-clause-plain c = plain_journal
