-- Seats of a shared desk, as contracts see them.
use Rattle.std.specs.Prelude.{◌≡◌, ℕ}
use Rattle.atomic_table.specs.Seated.{TableId}
use Rattle.turn_desk.specs.declared.shared.DeskSeat.{DeskSeat}
use Rattle.turn_desk.specs.declared.view.View.{View}
use Rattle.turn_desk.specs.Shared.{IsIdle}

module _ {X E R : Type 0} where
  -- what a seat knows
  abbrev pub known_to : DeskSeat X E R → View X E R
  known_to seat = seat.seat.me.0

  -- The seat is one of this desk, and stands between two questions.
  abbrev pub IsSeated : (ℕ → E → X → R → X → Type 0) → TableId → DeskSeat X E R → Type 0
  IsSeated step desk seat = (seat.seat.table_id ≡ desk) × IsIdle step seat.seat.me
