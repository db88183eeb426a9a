use Rattle.machine_laws.proofs.ShapeLemmas.{sight_has_shape, one_shape}
use Rattle.machine_laws.proofs.laws.a_sight_has_the_shape_of_its_entity.Goals as goal

pub returns-clause-kept : goal.returns-clause-kept
returns-clause-kept c = sight_has_shape

pub returns-clause-same : goal.returns-clause-same
returns-clause-same c = one_shape
