use Rattle.machine_laws.proofs.OutboxLemmas.{accounted}
use Rattle.machine_laws.proofs.laws.the_outbox_holds_what_was_appended.Goals as goal

pub returns : goal.returns
returns c = accounted
