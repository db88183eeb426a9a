use Rattle.journal_events.proofs.KeptLemmas.{kept_makes}
use Rattle.journal_events.proofs.laws.what_is_kept_makes_the_entity.Goals as goal

pub returns : goal.returns
returns c = kept_makes
