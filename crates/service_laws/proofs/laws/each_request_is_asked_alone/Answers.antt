use Rattle.desk_replies.proofs.PlainLemmas.{plain_asked}
use Rattle.service_laws.proofs.laws.each_request_is_asked_alone.Goals as goal

pub returns : goal.returns
returns c = plain_asked
