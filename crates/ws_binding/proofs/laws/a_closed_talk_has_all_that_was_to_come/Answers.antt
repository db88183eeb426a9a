use Rattle.ws_binding.proofs.LawLemmas.{closed_talk}
use Rattle.ws_binding.proofs.laws.a_closed_talk_has_all_that_was_to_come.Goals as goal

pub returns : goal.returns
returns c = closed_talk
