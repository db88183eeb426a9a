use Rattle.service_laws.proofs.PartLemmas.{at_its_place}
use Rattle.service_laws.proofs.laws.each_request_is_answered_at_its_place.Goals as goal

pub returns : goal.returns
returns c = at_its_place
