use Rattle.desk_replies.proofs.RepliesLemmas.{not_carried}
use Rattle.service_laws.proofs.laws.what_is_answered_here_is_not_carried.Goals as goal

pub returns : goal.returns
returns c = not_carried
