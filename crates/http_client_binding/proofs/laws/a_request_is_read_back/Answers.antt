use Rattle.http_client_binding.proofs.AskLemmas.{request_back}
use Rattle.http_client_binding.proofs.laws.a_request_is_read_back.Goals as goal

pub returns : goal.returns
returns c = request_back
