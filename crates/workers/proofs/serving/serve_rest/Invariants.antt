use Rattle.turn_desk.specs.Seats.{IsSeated}
use Rattle.workers.specs.Shifts.{WorksFrom}
use Rattle.workers.proofs.serving.serve_rest.Given as goal

abbrev pub invariant-loop : goal.invariant-loop
invariant-loop g l =
    IsSeated g.O.Object.step l.desk.table.shared.table_id l.seat
    × WorksFrom (g.V.Service.attends l.service) l.initial.seat l.initial.bench l.seat l.bench
