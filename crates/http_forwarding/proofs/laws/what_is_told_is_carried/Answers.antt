use Rattle.http_forwarding.proofs.AnswerLemmas.{told_is_carried}
use Rattle.http_forwarding.proofs.laws.what_is_told_is_carried.Goals as goal

pub returns : goal.returns
returns c = told_is_carried
