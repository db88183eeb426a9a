use Rattle.http_client_binding.proofs.SaidLemmas.{reply_said}
use Rattle.http_client_binding.proofs.laws.a_reply_is_said_by_its_frame.Goals as goal

pub returns : goal.returns
returns c = reply_said
