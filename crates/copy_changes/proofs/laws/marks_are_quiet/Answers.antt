use Rattle.copy_changes.proofs.SpendingLemmas.{spending_quiet}
use Rattle.copy_changes.proofs.StampingLemmas.{restamping_quiet}
use Rattle.copy_changes.proofs.laws.marks_are_quiet.Goals as goal

pub returns-clause-spending : goal.returns-clause-spending
returns-clause-spending c = λ home drafts nodes formed kinds kept. spending_quiet drafts nodes formed kinds home kept

pub returns-clause-restamping : goal.returns-clause-restamping
returns-clause-restamping c = λ home n lt st nodes kept. restamping_quiet home n lt st nodes kept
