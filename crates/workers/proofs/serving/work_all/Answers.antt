use base.Fml.{Lft}
use denote.Param.{param}
use denote.Param.Send.{IsSync, sendable, shr_sync}
use denote.Ref.{ShrRef}
use mir.Syntax.{Lifetime}
use Rattle.std.proofs.Common.{◌≡◌, length, rules}
use Rattle.workers.proofs.gate.Gate.TheSendSync as gate
use Rattle.workers.proofs.Sent.{job_send, desk_lent, lock_lent}
use Rattle.workers.proofs.ShiftsLemmas.{left_done}
use Rattle.workers.proofs.serving.work_all.Goals as goal

pub for_each_mut-requires-send-T : goal.for_each_mut-requires-send-T
for_each_mut-requires-send-T g c κs _ =
    let may = c.type_bounds in
    let job = job_send (param 1 g.row.O) (param 8 g.row.O-Event) (param 9 g.row.O-Outcome)
    may.send-O may.send-O-Event may.send-O-Outcome (param 3 g.row.B) may.send-B (param 4 g.row.A) may.send-A in
    search sendable depth 20

pub for_each_mut-requires-sync-F : goal.for_each_mut-requires-sync-F
for_each_mut-requires-sync-F g c κs _ =
    let may = c.type_bounds in
    let gates = gate.the_send (param 2 g.row.D) (param 7 g.row.J) (param 10 g.row.D-Conn)
    g.D.Door g.D.Conn.Source g.D.Conn.Sink g.J.Entrance may.send-D in
    let desks = desk_lent (param 1 g.row.O) (param 8 g.row.O-Event) (param 9 g.row.O-Outcome)
    may.send-O may.send-O-Event may.send-O-Outcome (param 0 g.row.R) g.O.Object may.sync-R in
    let locks = lock_lent _ gates in
    let rts : (ℓ : Lifetime) (κ : Lft) → IsSync (ShrRef ℓ κ (param 0 g.row.R)) = λ ℓ κ.
    shr_sync ℓ κ _ may.sync-R in
    let services : (ℓ : Lifetime) (κ : Lft) → IsSync (ShrRef ℓ κ (param 5 g.row.V)) = λ ℓ κ.
    shr_sync ℓ κ _ may.sync-V in
    search (desks, locks, rts, services, sendable) depth 40

pub returns-clause-worked : goal.returns-clause-worked
returns-clause-worked g c =
    let same : c.deref_mut.result.now ≡ c.args.jobs.items = search rules in
    let many : length c.args.jobs.items ≡ c.args.jobs.len = search rules in
    let done = left_done g.O.Object.step c.args.desk.now.table.shared.table_id (g.V.Service.attends c.args.service.now) _ _ (λ i p q h. h)
    c.for_each_mut.new.s same many c.for_each_mut.auto.s c.for_each_mut.ensures in
    done.worked
