use Rattle.sight_laws.proofs.SpotLemmas.{spot_of-seen}
use Rattle.sight_laws.proofs.sight.sight_keeps_what_is_named.Goals as goal

pub returns : goal.returns
returns c = spot_of-seen
