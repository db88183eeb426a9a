use Rattle.binding_laws.proofs.BoundLemmas.{bound_back}
use Rattle.binding_laws.proofs.laws.a_request_is_bound_back.Goals as goal

pub returns : goal.returns
returns c = bound_back
