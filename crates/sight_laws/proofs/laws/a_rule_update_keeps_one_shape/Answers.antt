use Rattle.sight_laws.proofs.LawLemmas.{rules_at_alike}
use Rattle.sight_laws.proofs.laws.a_rule_update_keeps_one_shape.Goals as goal

pub returns : goal.returns
returns c = rules_at_alike
