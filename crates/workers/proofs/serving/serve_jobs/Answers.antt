use base.Fml.{Lft}
use denote.Param.{param}
use denote.Param.Send.{IsSend, shr_send}
use denote.Ref.{ShrRef}
use mir.Syntax.{Lifetime}
use Rattle.workers.proofs.Sent.{closure_send, desk_goes, job_send, result_send}
use Rattle.workers.proofs.SharesLemmas.{comes_joined, comes_on}
use Rattle.workers.proofs.ShiftsLemmas.{grown_beside, have_grown, served_of}
use Rattle.workers.proofs.serving.serve_jobs.Goals as goal

-- the errand goes to its thread with the runtime, the desk and its job
pub join-beside-requires-send-F : goal.join-beside-requires-send-F
join-beside-requires-send-F g c κs _ =
    let may = c.type_bounds in
    let job = job_send (param 1 g.row.O) (param 8 g.row.O-Event) (param 9 g.row.O-Outcome)
    may.send-O may.send-O-Event may.send-O-Outcome (param 3 g.row.B) may.send-B (param 4 g.row.A) may.send-A in
    let desks = desk_goes (param 1 g.row.O) (param 8 g.row.O-Event) (param 9 g.row.O-Outcome)
    may.send-O may.send-O-Event may.send-O-Outcome (param 0 g.row.R) g.O.Object may.sync-R in
    let rts : (ℓ : Lifetime) (κ : Lft) → IsSend (ShrRef ℓ κ (param 0 g.row.R)) = λ ℓ κ.
    shr_send ℓ κ _ may.sync-R in
    let errands : (ℓ : Lifetime) (κ : Lft) → IsSend (ShrRef ℓ κ (param 6 g.row.N)) = λ ℓ κ.
    shr_send ℓ κ _ may.sync-N in
    closure_send _ _ _ _ _ _ (rts _ _) (desks _ _) (errands _ _) job

-- and its job comes back
pub join-beside-requires-send-A : goal.join-beside-requires-send-A
join-beside-requires-send-A g c κs _ =
    let may = c.type_bounds in
    result_send _ _ (job_send (param 1 g.row.O) (param 8 g.row.O-Event) (param 9 g.row.O-Outcome)
    may.send-O may.send-O-Event may.send-O-Outcome (param 3 g.row.B) may.send-B (param 4 g.row.A) may.send-A)

pub returns-in-Ok-clause-comes : goal.returns-in-Ok-clause-comes
returns-in-Ok-clause-comes g c =
    let rounds = c.join-beside.ensures.first.1 in
    let worked = c.join-beside.ensures.second.2 in
    let joined = c.all_joined-seat.ensures in
    let rest = c.serve_rest.ensures in
    comes_on (comes_on {later = c.serve_rest.new.seat} (comes_joined {seat = c.all_joined-seat.result.0} joined.seat joined.on
    (grown_beside (g.V.Service.attends c.args.service.now) _ _ (have_grown (g.V.Service.attends c.args.service.now) _ _ worked) rounds.made.grew) joined.parts)
    rest.seat rest.attended.attended.grew) c.run.ensures.seats c.run.ensures.grew

pub returns-in-Ok-clause-gains : goal.returns-in-Ok-clause-gains
returns-in-Ok-clause-gains g c =
    let joined = c.all_joined-seat.ensures in
    served_of (g.V.Service.attends c.args.service.now) _ _ c.args.beside c.join-beside.result.0 c.join-beside.ensures.second.2 c.requires.fresh
    c.join-beside.ensures.first.1 c.requires.fresh_beside
    joined.bench joined.seen joined.own c.serve_rest.ensures.attended c.run.ensures.does c.run.ensures.grew

pub returns-clause-comes : goal.returns-clause-comes
returns-clause-comes g c =
    let rounds = c.join-beside.ensures.first.1 in
    let worked = c.join-beside.ensures.second.2 in
    let joined = c.all_joined-seat.ensures in
    let rest = c.serve_rest.ensures in
    comes_on (comes_on {later = c.serve_rest.new.seat} (comes_joined {seat = c.all_joined-seat.result.0} joined.seat joined.on
    (grown_beside (g.V.Service.attends c.args.service.now) _ _ (have_grown (g.V.Service.attends c.args.service.now) _ _ worked) rounds.made.grew) joined.parts)
    rest.seat rest.attended.attended.grew) c.run.ensures.seats c.run.ensures.grew

pub returns-clause-gains : goal.returns-clause-gains
returns-clause-gains g c =
    let joined = c.all_joined-seat.ensures in
    served_of (g.V.Service.attends c.args.service.now) _ _ c.args.beside c.join-beside.result.0 c.join-beside.ensures.second.2 c.requires.fresh
    c.join-beside.ensures.first.1 c.requires.fresh_beside
    joined.bench joined.seen joined.own c.serve_rest.ensures.attended c.run.ensures.does c.run.ensures.grew
