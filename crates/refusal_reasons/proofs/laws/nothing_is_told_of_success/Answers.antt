use Rattle.refusal_reasons.proofs.StatusLemmas.{nothing_is_told}
use Rattle.refusal_reasons.proofs.laws.nothing_is_told_of_success.Goals as goal

pub returns : goal.returns
returns c = nothing_is_told
