use Rattle.m2m_value.proofs.Begins.{on_err}
use Rattle.attribute_rules.proofs.FaultLemmas.{still_unknown}
use Rattle.attribute_rules.proofs.admission.fault_in.Goals as goal

pub returns-in_err-first_key_fault-clause-memory : goal.returns-in_err-first_key_fault-clause-memory
returns-in_err-first_key_fault-clause-memory c = on_err c.from_residual.result _ (still_unknown _ _ c.in_err-first_key_fault.ensures.memory)
