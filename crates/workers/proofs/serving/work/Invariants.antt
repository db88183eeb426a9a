use Rattle.turn_desk.specs.Seats.{IsSeated}
use Rattle.workers.specs.Shifts.{HasWorked}
use Rattle.workers.proofs.serving.work.Given as goal

abbrev pub invariant-loop : goal.invariant-loop
invariant-loop g l =
    IsSeated g.O.Object.step l.desk.table.shared.table_id l.job.seat
    × HasWorked (g.V.Service.attends l.service) l.initial.job l.job
