use Rattle.tree_model.proofs.GrowthLemmas.{stands}
use Rattle.tree_model.proofs.laws.a_line_goes_up_from_parent_to_parent.Goals as goal

pub returns-clause-line : goal.returns-clause-line
returns-clause-line c = λ nodes n r tree found. (stands nodes tree n r found).line

pub returns-clause-up : goal.returns-clause-up
returns-clause-up c = λ nodes n r tree found. (stands nodes tree n r found).above
