use Rattle.entity_snapshot.proofs.HeadLemmas.{no_header}
use Rattle.entity_snapshot.proofs.laws.a_snapshot_is_no_header.Goals as goal

pub returns : goal.returns
returns c = no_header
