use Rattle.machine_laws.proofs.CompleteLemmas.{fanned_steps, given_steps, onward_steps, served_steps, taken_steps}
use Rattle.machine_laws.proofs.laws.what_may_be_served_is_served.Goals as goal

pub returns-clause-served : goal.returns-clause-served
returns-clause-served c = served_steps

pub returns-clause-fanned : goal.returns-clause-fanned
returns-clause-fanned c = fanned_steps

pub returns-clause-polled : goal.returns-clause-polled
returns-clause-polled c = given_steps

pub returns-clause-taken : goal.returns-clause-taken
returns-clause-taken c = taken_steps

pub returns-clause-onward : goal.returns-clause-onward
returns-clause-onward c = onward_steps
