use Rattle.http_client_binding.proofs.OrderLemmas.{each_written}
use Rattle.http_client_binding.proofs.laws.each_condition_is_written.Goals as goal

pub returns : goal.returns
returns c = each_written
