use Rattle.twin_laws.proofs.AgreeLemmas.{agreeing}
use Rattle.twin_laws.proofs.laws.agreeing_sides_answer_the_same.Goals as goal

pub returns : goal.returns
returns c = agreeing
