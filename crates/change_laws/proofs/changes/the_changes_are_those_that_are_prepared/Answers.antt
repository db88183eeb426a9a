use Rattle.change_laws.proofs.Facts.{deleted_are}
use Rattle.change_laws.proofs.ServedLemmas.{told_created, told_updated}
use Rattle.change_laws.proofs.changes.the_changes_are_those_that_are_prepared.Goals as goal

pub returns-clause-creation : goal.returns-clause-creation
returns-clause-creation c = told_created

pub returns-clause-update : goal.returns-clause-update
returns-clause-update c = told_updated

pub returns-clause-deletion : goal.returns-clause-deletion
returns-clause-deletion c = deleted_are
