use Rattle.service_laws.proofs.OnwardLemmas.{goes_on_answered}
use Rattle.service_laws.proofs.laws.what_goes_on_is_answered_there.Goals as goal

pub returns : goal.returns
returns c = goes_on_answered
