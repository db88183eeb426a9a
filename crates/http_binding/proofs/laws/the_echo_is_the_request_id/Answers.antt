use Rattle.http_binding.proofs.LawLemmas.{echo_is_id}
use Rattle.http_binding.proofs.laws.the_echo_is_the_request_id.Goals as goal

pub returns : goal.returns
returns c = echo_is_id
