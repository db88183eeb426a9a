use Rattle.journal_opening.proofs.JournalLemmas.{history_makes}
use Rattle.journal_opening.proofs.laws.deeds_make_an_entity.Goals as goal

pub returns : goal.returns
returns c = history_makes
