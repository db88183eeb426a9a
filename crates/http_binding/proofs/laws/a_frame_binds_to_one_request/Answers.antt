use Rattle.http_binding.proofs.LawLemmas.{binds_to_one}
use Rattle.http_binding.proofs.laws.a_frame_binds_to_one_request.Goals as goal

pub returns : goal.returns
returns c = binds_to_one
