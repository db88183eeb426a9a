use Rattle.std.proofs.Common.{subst}
use Rattle.entity_model.specs.Entity.{EntityData}
use Rattle.kept_object.specs.Records.{IsKeptAtRest}
use Rattle.later_replies.specs.Entries.{LaterData}
use Rattle.later_opening.specs.Making.{later_of}
use Rattle.later_opening.specs.Snapshots.{IsLaterSnapshot}
use Rattle.journaled_later.proofs.RecordLemmas.{snapshot_keeps}
use Rattle.journaled_later.specs.Keeping.{KeepsLater}
use Rattle.journaled_later.proofs.recorder.JournaledLaterRecorder.snapshot.Goals as goal

pub returns-in-Ok : goal.returns-in-Ok
returns-in-Ok g c =
    let bytes = c.in-Ok.bytes.items in
    let requests = c.self.inside.requests in
    let is : IsLaterSnapshot (later_of c.self.inside.entity requests) bytes = subst (λ (e : EntityData). IsLaterSnapshot (later_of e requests) bytes) c.entity.ensures c.in-Ok.ensures.snapshot in
    record { keeps = subst (λ (d : LaterData). IsKeptAtRest KeepsLater d bytes) c.self.view_is (snapshot_keeps _ bytes is) }
