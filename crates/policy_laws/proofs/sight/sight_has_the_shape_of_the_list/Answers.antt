use Rattle.policy_laws.proofs.ShapeLemmas.{sight_shape}
use Rattle.policy_laws.proofs.sight.sight_has_the_shape_of_the_list.Goals as goal

pub returns : goal.returns
returns c = sight_shape
