use Rattle.policy_laws.proofs.ShapeKeptLemmas.{shape_replace-same}
use Rattle.policy_laws.proofs.shapes.equal_shapes_stay_equal_under_a_replacement.Goals as goal

pub returns : goal.returns
returns c = shape_replace-same
