use Rattle.machine_laws.proofs.AlikeLemmas.{stay_alike, steps_alike, steps_shaped, steps_stay}
use Rattle.machine_laws.proofs.laws.equal_sights_are_answered_alike.Goals as goal

pub returns-clause-steps : goal.returns-clause-steps
returns-clause-steps c = steps_alike

pub returns-clause-seen : goal.returns-clause-seen
returns-clause-seen c = steps_stay

pub returns-clause-shaped : goal.returns-clause-shaped
returns-clause-shaped c = steps_shaped

pub returns-clause-histories : goal.returns-clause-histories
returns-clause-histories c = stay_alike
