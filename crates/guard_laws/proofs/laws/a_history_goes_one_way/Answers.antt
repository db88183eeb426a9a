use Rattle.guard_laws.proofs.HistoryLemmas.{one_way}
use Rattle.guard_laws.proofs.laws.a_history_goes_one_way.Goals as goal

pub returns : goal.returns
returns c = λ opening e other history twin. one_way history twin opening e other
