use Rattle.http_binding.proofs.MethodLemmas.{operation_back}
use Rattle.http_binding.proofs.laws.an_operation_is_read_back.Goals as goal

pub returns : goal.returns
returns c = operation_back
