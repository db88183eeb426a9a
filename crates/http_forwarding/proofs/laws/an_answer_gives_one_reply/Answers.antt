use Rattle.http_forwarding.proofs.AnswerLemmas.{one_reply}
use Rattle.http_forwarding.proofs.laws.an_answer_gives_one_reply.Goals as goal

pub returns : goal.returns
returns c = one_reply
