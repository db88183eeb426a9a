use Rattle.later_laws.proofs.SightLemmas.{alike_later, stay_alike_later}
use Rattle.later_laws.proofs.laws.equal_sights_are_answered_alike_later.Goals as goal

pub returns-clause-steps : goal.returns-clause-steps
returns-clause-steps c = alike_later

pub returns-clause-histories : goal.returns-clause-histories
returns-clause-histories c = stay_alike_later
