use Rattle.guard_laws.proofs.HistoryLemmas.{guarded_in_history, starved_guarded, step_guarded}
use Rattle.guard_laws.proofs.laws.nothing_is_shown_or_changed_without_a_grant.Goals as goal

pub returns-clause-steps : goal.returns-clause-steps
returns-clause-steps c = step_guarded

pub returns-clause-short : goal.returns-clause-short
returns-clause-short c = starved_guarded

pub returns-clause-histories : goal.returns-clause-histories
returns-clause-histories c = λ opening e earlier later. guarded_in_history earlier later opening e
