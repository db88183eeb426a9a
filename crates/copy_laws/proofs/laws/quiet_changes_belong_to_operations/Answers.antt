use Rattle.copy_laws.proofs.OperationLemmas.{operation_stays}
use Rattle.copy_laws.proofs.laws.quiet_changes_belong_to_operations.Goals as goal

pub returns : goal.returns
returns c = λ home before lead gone middle after op quiet. operation_stays home before middle after quiet lead gone op
