use Rattle.service_laws.proofs.LawLemmas.{nothing_behind}
use Rattle.service_laws.proofs.laws.what_is_behind_a_closing_frame_is_not_answered.Goals as goal

pub returns : goal.returns
returns c = nothing_behind
