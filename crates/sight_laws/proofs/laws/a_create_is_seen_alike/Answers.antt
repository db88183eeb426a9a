use Rattle.sight_laws.proofs.LawLemmas.{create_at_alike}
use Rattle.sight_laws.proofs.laws.a_create_is_seen_alike.Goals as goal

pub returns : goal.returns
returns c = create_at_alike
