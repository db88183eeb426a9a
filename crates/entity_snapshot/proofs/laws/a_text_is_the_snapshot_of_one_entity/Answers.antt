use Rattle.entity_snapshot.proofs.SnapshotLemmas.{one_entity}
use Rattle.entity_snapshot.proofs.laws.a_text_is_the_snapshot_of_one_entity.Goals as goal

pub returns : goal.returns
returns c = one_entity
