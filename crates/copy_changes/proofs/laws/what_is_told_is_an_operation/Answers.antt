use Rattle.copy_changes.proofs.PushingLemmas.{told_change}
use Rattle.copy_changes.proofs.RemovingLemmas.{told_removal}
use Rattle.copy_changes.proofs.laws.what_is_told_is_an_operation.Goals as goal

pub returns-clause-removals : goal.returns-clause-removals
returns-clause-removals c = λ home picks drafts nodes formed kinds kept. told_removal home picks drafts nodes formed kinds kept

pub returns-clause-changes : goal.returns-clause-changes
returns-clause-changes c = λ home drafts before middle lead gone formed kinds op pushes. told_change home drafts before middle lead gone formed kinds op pushes
