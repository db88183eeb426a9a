use Rattle.std.proofs.Common.{subst}
use Rattle.kept_object.specs.Records.{IsKeptAtRest}
use Rattle.journaled_entity.specs.Keeping.{KeepsEntity}
use Rattle.entity_model.specs.Entity.{EntityData}
use Rattle.journaled_entity.proofs.KeepLemmas.{snapshot_keeps}
use Rattle.journaled_entity.proofs.recording.JournaledRecorder.snapshot.Goals as goal

pub returns-in-Ok : goal.returns-in-Ok
returns-in-Ok g c = record {
  keeps = subst (λ (e : EntityData). IsKeptAtRest KeepsEntity e c.in-Ok.bytes.items) c.self.view_is (snapshot_keeps _ c.in-Ok.bytes.items c.in-Ok.ensures.snapshot);
}
