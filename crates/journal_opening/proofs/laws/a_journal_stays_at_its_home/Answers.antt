use Rattle.journal_opening.proofs.HomeLemmas.{made_at_home}
use Rattle.journal_opening.proofs.laws.a_journal_stays_at_its_home.Goals as goal

pub returns : goal.returns
returns c = made_at_home
