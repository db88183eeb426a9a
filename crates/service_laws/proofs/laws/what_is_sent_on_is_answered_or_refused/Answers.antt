use Rattle.service_laws.proofs.SentOnLemmas.{sent_on_answered}
use Rattle.service_laws.proofs.laws.what_is_sent_on_is_answered_or_refused.Goals as goal

pub returns : goal.returns
returns c = sent_on_answered
