use Rattle.machine_laws.proofs.AskedLemmas.{create_adds, delete_takes, numbers_rise, update_changes}
use Rattle.cse_machine.proofs.SameLemmas.{same_entity}
use Rattle.machine_laws.proofs.laws.a_step_changes_what_is_asked_alone.Goals as goal

pub returns-clause-entity : goal.returns-clause-entity
returns-clause-entity c = same_entity

pub returns-clause-created : goal.returns-clause-created
returns-clause-created c = create_adds

pub returns-clause-updated : goal.returns-clause-updated
returns-clause-updated c = update_changes

pub returns-clause-deleted : goal.returns-clause-deleted
returns-clause-deleted c = delete_takes

pub returns-clause-numbers : goal.returns-clause-numbers
returns-clause-numbers c = numbers_rise
