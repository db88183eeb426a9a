use Rattle.machine_laws.proofs.OrderLemmas.{retrieves_in_order}
use Rattle.machine_laws.proofs.laws.a_retrieve_is_refused_in_order.Goals as goal

pub returns : goal.returns
returns c = λ e request target fault there is. retrieves_in_order e request target fault there is
