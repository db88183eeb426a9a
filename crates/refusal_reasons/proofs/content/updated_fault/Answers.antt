use Rattle.attribute_rules.specs.declared.contents.Edit.{Edit}
use Rattle.refusal_reasons.proofs.FaultLemmas.{none_is, told_is}
use Rattle.refusal_reasons.proofs.content.updated_fault.Goals as goal

pub returns-in-Ok : goal.returns-in-Ok
returns-in-Ok c = none_is _ _ c.in-Ok.ensures.refused

pub returns : goal.returns
returns c =
    told_is Edit _ _ _ c.told.ensures.value c.told.ensures.known c.in-Err.ensures.admitted c.in-Err.ensures.refused
