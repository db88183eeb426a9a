use Rattle.service_laws.proofs.PeerLemmas.{answer_is_the_peers}
use Rattle.service_laws.proofs.laws.an_answer_is_the_peers.Goals as goal

pub returns : goal.returns
returns c = answer_is_the_peers
