use Rattle.attribute_rules.proofs.FaultLemmas.{faultless}
use Rattle.attribute_rules.proofs.laws.what_is_admitted_has_no_fault.Goals as goal

pub returns : goal.returns
returns c = faultless
