use Rattle.addressing.proofs.BackLemmas.{printed_back}
use Rattle.addressing.proofs.laws.what_is_printed_is_read_back.Goals as goal

pub returns : goal.returns
returns c = λ home text addr is read keeps. printed_back home text addr is read keeps
