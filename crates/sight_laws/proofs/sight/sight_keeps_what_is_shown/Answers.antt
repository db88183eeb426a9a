use Rattle.sight_laws.proofs.AnswerLemmas.{retrieved-seen}
use Rattle.sight_laws.proofs.sight.sight_keeps_what_is_shown.Goals as goal

pub returns : goal.returns
returns c = λ home nodes o request n well. retrieved-seen home nodes o well request n
