use Rattle.change_laws.proofs.ServedLemmas.{update_alone}
use Rattle.change_laws.proofs.laws.an_update_changes_its_target_alone.Goals as goal

pub returns : goal.returns
returns c = update_alone
