use Rattle.sight_laws.proofs.SightLemmas.{discovered-seen}
use Rattle.sight_laws.proofs.sight.sight_keeps_what_is_found.Goals as goal

pub returns : goal.returns
returns c = λ home nodes o request n well. discovered-seen home nodes o well request n
