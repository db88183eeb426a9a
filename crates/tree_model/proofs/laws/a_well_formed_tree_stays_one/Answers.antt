use Rattle.std.proofs.Common.{◌∙◌}
use Rattle.tree_model.specs.Tree.{fits_in}
use Rattle.tree_model.proofs.GrowthLemmas.{grown}
use Rattle.tree_model.proofs.KeptLemmas.{is_well_formed-replaced, is_well_formed-without}
use Rattle.tree_model.proofs.laws.a_well_formed_tree_stays_one.Goals as goal

pub returns-clause-appended : goal.returns-clause-appended
returns-clause-appended c = λ nodes r well next. grown fits_in nodes r well next

pub returns-clause-replaced : goal.returns-clause-replaced
returns-clause-replaced c = λ nodes r well stood. is_well_formed-replaced r nodes stood ∙ well

pub returns-clause-removed : goal.returns-clause-removed
returns-clause-removed c = is_well_formed-without
