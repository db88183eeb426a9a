use Rattle.entity_model.proofs.ExpiryLemmas.{expiry_told}
use Rattle.entity_model.proofs.laws.an_expiry_tells_what_it_takes.Goals as goal

pub returns : goal.returns
returns c = expiry_told
