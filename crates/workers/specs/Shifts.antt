-- What workers do at their seats: they attend to connections, one after another.
use Rattle.std.specs.Prelude.{◌≡◌, List, [], ◌∷◌}
use Rattle.turn_desk.specs.declared.shared.DeskSeat.{DeskSeat}
use Rattle.turn_desk.specs.Seats.{known_to}
use Rattle.workers.specs.declared.sharing.Job.{Job}
use Rattle.workers.specs.Shares.{HasGrown, Pairwise}

-- a connection as it came, and as it was when it had been attended to
pub record Visit (C A : Type 0) : Type 0 where
  pub conn : C
  pub attended : A

-- what was done at a seat and a bench: seat and bench before, the visits, and both after
pub record Shift (S C B A : Type 0) : Type 0 where
  pub seat : S
  pub bench : B
  pub visits : List (Visit C A)
  pub later : S
  pub left : B

module _ {S C B A : Type 0} (attends : S → C → B → S → A → B → Type 0) where
  -- these connections were attended to, one after another, and nothing else was done
  abbrev pub AttendsInTurn : S → B → List (Visit C A) → S → B → Type 0
  AttendsInTurn seat bench [] later left = (later ≡ seat) × (left ≡ bench)
  AttendsInTurn seat bench (v ∷ visits) later left =
      (between : S) × (aside : B) × attends seat v.conn bench between v.attended aside
      × AttendsInTurn between aside visits later left

module _ {X E R C B A : Type 0}
    (attends : DeskSeat X E R → C → B → DeskSeat X E R → A → B → Type 0) where
  -- A shift: the connections of its visits were attended to, one after another, and by nothing
  -- else the seat grew.
  pub record HasAttended (shift : Shift (DeskSeat X E R) C B A) : Type 0 where
    pub attends_all : AttendsInTurn attends shift.seat shift.bench shift.visits shift.later
        shift.left
    pub grew : HasGrown (known_to shift.seat) (known_to shift.later)

  -- a shift came of a seat and a bench
  pub record WorksFrom (seat : DeskSeat X E R) (bench : B) (later : DeskSeat X E R) (left : B)
      : Type 0 where
    pub visits : List (Visit C A)
    pub attended : HasAttended (record {
      seat = seat;
      bench = bench;
      visits = visits;
      later = later;
      left = left;
    })

  -- a worker took connections, and each was attended to
  abbrev pub HasWorked : Job X B A E R → Job X B A E R → Type 0
  HasWorked before after = WorksFrom before.seat before.bench after.seat after.bench

  -- and so did each worker
  abbrev pub HaveWorked : List (Job X B A E R) → List (Job X B A E R) → Type 0
  HaveWorked before after = Pairwise HasWorked before after
