use Rattle.desk_replies.proofs.LinkLemmas.{carries_all}
use Rattle.service_laws.proofs.laws.the_link_tells_all_that_is_carried.Goals as goal

pub returns : goal.returns
returns c = carries_all
