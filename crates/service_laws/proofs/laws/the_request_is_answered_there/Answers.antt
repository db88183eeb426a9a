use Rattle.service_laws.proofs.PeerLemmas.{answered_there}
use Rattle.service_laws.proofs.laws.the_request_is_answered_there.Goals as goal

pub returns : goal.returns
returns c = answered_there
