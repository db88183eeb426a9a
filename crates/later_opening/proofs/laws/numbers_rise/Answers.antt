use Rattle.later_opening.proofs.NumberLemmas.{made_numbered}
use Rattle.later_opening.proofs.laws.numbers_rise.Goals as goal

pub returns : goal.returns
returns c = made_numbered
