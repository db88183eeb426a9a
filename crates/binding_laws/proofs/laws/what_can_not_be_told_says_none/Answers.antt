use Rattle.binding_laws.proofs.ToldLemmas.{none_told}
use Rattle.binding_laws.proofs.laws.what_can_not_be_told_says_none.Goals as goal

pub returns : goal.returns
returns c = none_told
