-- What comes of serving a door by workers, with an errand beside them.
use Rattle.std.specs.Prelude.{◌≡◌, ℕ, List, [], ◌∷◌, ◌++◌, map, Option, Some, IfOk, IfErr}
use Rattle.std.specs.List.{All}
use Rattle.std.specs.declared.result.Result.{Result}
use Rattle.std.specs.declared.result.Result.TheVariants.{Ok, Err}
use Rattle.atomic_table.specs.Seated.{TableId}
use Rattle.turn_desk.specs.declared.shared.DeskSeat.{DeskSeat}
use Rattle.turn_desk.specs.Seats.{known_to}
use Rattle.workers.specs.declared.gate.Ending.TheVariants.{Fault}
use Rattle.workers.specs.declared.serving.ServeFault.{ServeFault}
use Rattle.workers.specs.declared.serving.ServeFault.TheVariants.{DoorFault, OutOfMemory}
use Rattle.workers.specs.Gate.{DoorTold, TakesConnections, ServesDoor}
use Rattle.workers.specs.Rounds.{Rounds, AreMade}
use Rattle.workers.specs.Shares.{HasComeBack, HasNone, HasSeenAll, all_own}
use Rattle.workers.specs.Shifts.{Shift, HasAttended}

-- the seat that comes back, whether or not something failed
abbrev pub seat_after : {S D : Type 0} → Result (S × D) (S × D × ServeFault) → S
seat_after (Ok r) = r.0
seat_after (Err e) = e.0

module _ {X E R C B A : Type 0}
    (attends : DeskSeat X E R → C → B → DeskSeat X E R → A → B → Type 0)
    (does : DeskSeat X E R → B → DeskSeat X E R → B → Type 0) where
  -- The entries that a seat has gained are those that attending and an errand gave: at seats that
  -- were split off it and had none before, one for a worker at each bench but the last, and one for
  -- the errand at that bench; then, at the seat itself, those of attending to what was left, at the
  -- last bench; and then those of one round more of the errand, at the first bench.
  pub record GainsByServing (benches : List B) (first left : B) (lent back : DeskSeat X E R)
      : Type 0 where
    -- the workers
    pub shifts : List (Shift (DeskSeat X E R) C B A)
    pub worked : All (HasAttended attends) shifts
    pub fresh : All (λ s. HasNone (known_to s.seat)) shifts
    -- the errand beside them
    pub rounds : Rounds (DeskSeat X E R) B
    pub made : AreMade does rounds
    pub fresh_beside : HasNone (known_to rounds.seat)
    pub each_bench : map (λ s. s.bench) shifts ++ rounds.bench ∷ [] ≡ benches
    -- what was left, at the seat into which all were joined
    pub last : Shift (DeskSeat X E R) C B A
    pub worked_last : HasAttended attends last
    pub last_bench : last.bench ≡ rounds.left
    pub gained : (known_to last.seat).own ≡ (known_to lent).own
        ++ all_own (map (λ s. known_to s.later) shifts ++ known_to rounds.later ∷ [])
    pub seen : HasSeenAll (known_to back)
        (map (λ s. known_to s.later) shifts ++ known_to rounds.later ∷ [])
    -- and the round behind it all
    pub at_the_end : does last.later first back left

-- A door was served at a desk, with a seat that was lent, and this came of it: seat and door, and
-- the fault, where one ended it. So many connections were to be accepted at most. There was one
-- worker at each bench but the last, which was that of the errand beside them; and this came of the
-- first bench.
pub record EndsServing {X E R D C B A : Type 0} (step : ℕ → E → X → R → X → Type 0) (desk : TableId)
    (told : D → DoorTold) (attends : DeskSeat X E R → C → B → DeskSeat X E R → A → B → Type 0)
    (does : DeskSeat X E R → B → DeskSeat X E R → B → Type 0)
    (accept : Option ℕ) (benches : List B) (first left : B) (seat : DeskSeat X E R) (door : D)
    (result : Result (DeskSeat X E R × D) (DeskSeat X E R × D × ServeFault)) : Type 0 where
  -- without a fault the seat has come back
  pub back : IfOk result (λ r. HasComeBack step desk (known_to seat) r.0)
  -- what it has gained is what attending and the errand gave
  pub gains : IfOk result (λ r. GainsByServing attends does benches first left seat r.0)
  -- and the door gave None, or as many connections as were to be accepted, where it tells that
  pub ok : IfOk result (λ r. ServesDoor accept (told door) (told r.1))
  -- where the door failed the seat has come back too
  pub back_at_fault : IfErr result
      (λ e. e.2 ≡ DoorFault → HasComeBack step desk (known_to seat) e.0)
  pub gains_at_fault : IfErr result
      (λ e. e.2 ≡ DoorFault → GainsByServing attends does benches first left seat e.0)
  -- it failed in this call, and gave no more connections before than were to be accepted
  pub fault : IfErr result
      (λ e. e.2 ≡ DoorFault → TakesConnections accept (Some Fault) (told door) (told e.1))
  -- where memory ran out nothing was done
  pub memory : IfErr result
      (λ e. e.2 ≡ OutOfMemory → (e.0 ≡ seat) × (e.1 ≡ door) × (left ≡ first))
