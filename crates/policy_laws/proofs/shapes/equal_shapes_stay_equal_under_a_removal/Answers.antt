use Rattle.policy_laws.proofs.ShapeKeptLemmas.{shape_without-same}
use Rattle.policy_laws.proofs.shapes.equal_shapes_stay_equal_under_a_removal.Goals as goal

pub returns : goal.returns
returns c = shape_without-same
