use Rattle.service_laws.proofs.OneWayLemmas.{answered_in_one_way}
use Rattle.service_laws.proofs.laws.a_stream_is_answered_in_one_way.Goals as goal

pub returns : goal.returns
returns c = answered_in_one_way
