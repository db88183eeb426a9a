use Rattle.later_laws.proofs.GoingLemmas.{goes_when_due_or_by_own}
use Rattle.later_laws.proofs.laws.an_accepted_request_goes_when_due_or_by_its_originator.Goals as goal

pub returns : goal.returns
returns c = λ before after e t x is has stands. goes_when_due_or_by_own before after e t x is has stands
