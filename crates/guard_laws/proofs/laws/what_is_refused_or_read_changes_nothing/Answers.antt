use Rattle.guard_laws.proofs.Words.{ap, ◌∙◌}
use Rattle.cse_machine.proofs.SameLemmas.{done_keeps, onward_leaves, starved_alone}
use Rattle.guard_laws.proofs.Terms.{EntityData, swept}
use Rattle.guard_laws.proofs.GuardLemmas.{notified_still, retrieved_still}
use Rattle.guard_laws.proofs.HistoryLemmas.{starved_undone}
use Rattle.guard_laws.proofs.laws.what_is_refused_or_read_changes_nothing.Goals as goal

pub returns-clause-refused : goal.returns-clause-refused
returns-clause-refused c = λ reading request before after reply step unserved.
    (done_keeps reading request before after reply step).unserved unserved

pub returns-clause-retrieved : goal.returns-clause-retrieved
returns-clause-retrieved c = λ reading request before after reply retrieve step.
    ap (λ (e : EntityData). e.nodes) step.1 ∙ retrieved_still (swept reading before) request retrieve

pub returns-clause-notified : goal.returns-clause-notified
returns-clause-notified c = λ reading request before after reply notify step.
    ap (λ (e : EntityData). e.nodes) step.1 ∙ notified_still (swept reading before) request notify

pub returns-clause-onward : goal.returns-clause-onward
returns-clause-onward c = λ reading request onward before after poa step. onward_leaves reading request before after poa onward step

pub returns-clause-starved : goal.returns-clause-starved
returns-clause-starved c = starved_alone

pub returns-clause-members : goal.returns-clause-members
returns-clause-members c = starved_undone
