use Rattle.later_laws.proofs.DoneOnceLemmas.{done_once, stays_until}
use Rattle.later_laws.proofs.laws.accepted_requests_are_done_once.Goals as goal

pub returns-clause-stays : goal.returns-clause-stays
returns-clause-stays c = λ before after events turns x sound has there. stays_until events turns before after x has there

pub returns-clause-once : goal.returns-clause-once
returns-clause-once c = done_once
