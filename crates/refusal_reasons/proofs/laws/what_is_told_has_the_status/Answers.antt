use Rattle.refusal_reasons.proofs.StatusLemmas.{told_has_status}
use Rattle.refusal_reasons.proofs.laws.what_is_told_has_the_status.Goals as goal

pub returns : goal.returns
returns c = told_has_status
