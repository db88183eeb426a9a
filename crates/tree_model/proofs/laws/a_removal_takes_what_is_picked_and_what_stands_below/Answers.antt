use Rattle.tree_model.proofs.GrowthLemmas.{without-spared}
use Rattle.tree_model.proofs.laws.a_removal_takes_what_is_picked_and_what_stands_below.Goals as goal

pub returns : goal.returns
returns c = without-spared
