use Rattle.create_delete.proofs.RightLemmas.{told_by_right}
use Rattle.create_delete.proofs.guard.nothing_is_changed_without_a_grant.Goals as goal

pub returns : goal.returns
returns c = told_by_right
