use Rattle.service_laws.proofs.PeerLemmas.{no_message_there, refused_there}
use Rattle.service_laws.proofs.laws.what_is_no_request_is_refused_there.Goals as goal

pub returns-clause-unbound : goal.returns-clause-unbound
returns-clause-unbound c = refused_there

pub returns-clause-none : goal.returns-clause-none
returns-clause-none c = no_message_there
