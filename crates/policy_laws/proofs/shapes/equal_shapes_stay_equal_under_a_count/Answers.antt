use Rattle.policy_laws.proofs.ShapeKeptLemmas.{shape_counted-same}
use Rattle.policy_laws.proofs.shapes.equal_shapes_stay_equal_under_a_count.Goals as goal

pub returns : goal.returns
returns c = shape_counted-same
