use Rattle.policy_laws.proofs.ShapeAlikeLemmas.{at-shape, fan_grants-shape, grants-shape, relinks-shape}
use Rattle.policy_laws.proofs.shapes.a_shape_keeps_rights.Goals as goal

pub returns-clause-found : goal.returns-clause-found
returns-clause-found c = at-shape

pub returns-clause-rights : goal.returns-clause-rights
returns-clause-rights c = grants-shape

pub returns-clause-links : goal.returns-clause-links
returns-clause-links c = relinks-shape

pub returns-clause-fans : goal.returns-clause-fans
returns-clause-fans c = fan_grants-shape
