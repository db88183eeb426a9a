use Rattle.service_laws.proofs.OnwardLemmas.{goes_on_said}
use Rattle.service_laws.proofs.laws.what_goes_on_says_all.Goals as goal

pub returns : goal.returns
returns c = goes_on_said
