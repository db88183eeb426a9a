use Rattle.service_laws.proofs.SentOnLemmas.{sent_on_stands}
use Rattle.service_laws.proofs.laws.what_is_sent_on_can_stand_in_a_head.Goals as goal

pub returns : goal.returns
returns c = sent_on_stands
