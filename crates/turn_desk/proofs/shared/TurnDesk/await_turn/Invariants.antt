use Rattle.std.proofs.Common.{◌≡◌}
use Rattle.turn_desk.proofs.shared.TurnDesk.await_turn.Given as goal

abbrev pub invariant-loop : goal.invariant-loop
invariant-loop g l = (l.seat.seat.me ≡ l.initial.seat.seat.me) × (l.seat.seat.table_id ≡ l.initial.seat.seat.table_id)
