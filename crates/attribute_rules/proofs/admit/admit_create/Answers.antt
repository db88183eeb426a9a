use Rattle.attribute_rules.specs.declared.contents.Wanted.{Wanted}
use Rattle.attribute_rules.proofs.FaultLemmas.{told_admitted, told_refused}
use Rattle.attribute_rules.proofs.admit.admit_create.Goals as goal

pub returns-in-Err-clause-admitted : goal.returns-in-Err-clause-admitted
returns-in-Err-clause-admitted c = told_admitted _ _ c.in-Err.ensures.refused

pub returns-in-Err-clause-refused : goal.returns-in-Err-clause-refused
returns-in-Err-clause-refused c = told_refused Wanted _ _ c.in-Err.ensures.refused
