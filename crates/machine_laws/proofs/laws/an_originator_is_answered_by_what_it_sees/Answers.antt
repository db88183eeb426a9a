use Rattle.machine_laws.proofs.SightLemmas.{outcome-seen}
use Rattle.machine_laws.proofs.laws.an_originator_is_answered_by_what_it_sees.Goals as goal

pub returns : goal.returns
returns c = outcome-seen
