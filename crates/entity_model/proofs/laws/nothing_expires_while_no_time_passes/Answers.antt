use Rattle.entity_model.proofs.TellingLemmas.{swept_still}
use Rattle.entity_model.proofs.laws.nothing_expires_while_no_time_passes.Goals as goal

pub returns : goal.returns
returns c = swept_still
