use Rattle.http_binding.proofs.LawLemmas.{binds_to_kinds}
use Rattle.http_binding.proofs.laws.a_frame_binds_to_requests_of_their_kinds.Goals as goal

pub returns : goal.returns
returns c = binds_to_kinds
