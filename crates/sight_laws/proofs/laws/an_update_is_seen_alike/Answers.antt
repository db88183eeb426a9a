use Rattle.sight_laws.proofs.LawLemmas.{update_at_alike}
use Rattle.sight_laws.proofs.laws.an_update_is_seen_alike.Goals as goal

pub returns : goal.returns
returns c = update_at_alike
