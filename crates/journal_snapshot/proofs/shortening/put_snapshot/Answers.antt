use Rattle.std.proofs.Common.{inl, refl, sym, subst}
use Rattle.journal_snapshot.proofs.ShortenLemmas.{failed_unput, on_put, only_failed, put_leaves, stays_making}
use Rattle.later_opening.specs.Making.{later_of}
use Rattle.later_opening.specs.Snapshots.{IsLaterSnapshot}
use Rattle.journal_snapshot.specs.Shortening.{SnapshotOr}
use Rattle.journal_snapshot.proofs.shortening.put_snapshot.Goals as goal

pub returns-in-Ok-clause-leaves : goal.returns-in-Ok-clause-leaves
returns-in-Ok-clause-leaves g c = λ told.
    let d = later_of c.args.entity.now c.args.requests.now in
    on_put (g.N.KeptName.may_leave c.put_bytes.new.name) d _ c.put_bytes.result
    (subst (IsLaterSnapshot d) (sym c.deref.ensures.value) c.in-Ok.ensures.snapshot) (c.put_bytes.ensures.named told)

pub returns-in-Ok-clause-any_moment : goal.returns-in-Ok-clause-any_moment
returns-in-Ok-clause-any_moment g c = λ told.
    let K = g.N.KeptName in
    let d = later_of c.args.entity.now c.args.requests.now in
    put_leaves K.seen K.may_leave K.moment K.left_since c.args.name.now c.put_bytes.new.name d _
    (subst (IsLaterSnapshot d) (sym c.deref.ensures.value) c.in-Ok.ensures.snapshot) (c.put_bytes.ensures.any_moment told)

pub returns-in-Ok-clause-fault : goal.returns-in-Ok-clause-fault
returns-in-Ok-clause-fault g c = failed_unput (later_of c.args.entity.now c.args.requests.now) c.put_bytes.result c.put_bytes.ensures.fault

pub returns-in-Ok-clause-stays : goal.returns-in-Ok-clause-stays
returns-in-Ok-clause-stays g c = only_failed _ c.put_bytes.result c.put_bytes.ensures.fault

pub returns-in-Err-Unkept-clause-any_moment : goal.returns-in-Err-Unkept-clause-any_moment
returns-in-Err-Unkept-clause-any_moment g c = λ told.
    let K = g.N.KeptName in
    stays_making K.seen K.may_leave K.moment K.left_since c.args.name.now (g.met.N.KeptName.only_now told) (c.requires told)
    (SnapshotOr (K.seen c.args.name.now) (later_of c.args.entity.now c.args.requests.now)) (inl refl)

pub returns-in-Err-OutOfMemory-clause-any_moment : goal.returns-in-Err-OutOfMemory-clause-any_moment
returns-in-Err-OutOfMemory-clause-any_moment g c = λ told.
    let K = g.N.KeptName in
    stays_making K.seen K.may_leave K.moment K.left_since c.args.name.now (g.met.N.KeptName.only_now told) (c.requires told)
    (SnapshotOr (K.seen c.args.name.now) (later_of c.args.entity.now c.args.requests.now)) (inl refl)
