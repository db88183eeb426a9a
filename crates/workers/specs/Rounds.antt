-- What is done beside workers: rounds, one after another.
use Rattle.std.specs.Prelude.{◌≡◌, ℕ, zero, suc}
use Rattle.turn_desk.specs.declared.shared.DeskSeat.{DeskSeat}
use Rattle.turn_desk.specs.Seats.{known_to}
use Rattle.workers.specs.declared.sharing.Job.{Job}
use Rattle.workers.specs.Shares.{HasGrown}

-- where rounds were made: seat and bench before, how many there were, and both after
pub record Rounds (S B : Type 0) : Type 0 where
  pub seat : S
  pub bench : B
  pub count : ℕ
  pub later : S
  pub left : B

module _ {S B : Type 0} (does : S → B → S → B → Type 0) where
  -- so many rounds were made, one after another, and nothing else was done
  abbrev pub DoesInTurn : ℕ → S → B → S → B → Type 0
  DoesInTurn zero seat bench later left = (later ≡ seat) × (left ≡ bench)
  DoesInTurn (suc count) seat bench later left =
      (between : S) × (aside : B) × does seat bench between aside
      × DoesInTurn count between aside later left

module _ {X E R B : Type 0} (does : DeskSeat X E R → B → DeskSeat X E R → B → Type 0) where
  -- Rounds were made, one after another, and by nothing else the seat grew.
  pub record AreMade (rounds : Rounds (DeskSeat X E R) B) : Type 0 where
    pub in_turn : DoesInTurn does rounds.count rounds.seat rounds.bench rounds.later rounds.left
    pub grew : HasGrown (known_to rounds.seat) (known_to rounds.later)

  -- rounds came of a seat and a bench
  pub record RunsFrom (seat : DeskSeat X E R) (bench : B) (later : DeskSeat X E R) (left : B)
      : Type 0 where
    pub count : ℕ
    pub made : AreMade (record {
      seat = seat;
      bench = bench;
      count = count;
      later = later;
      left = left;
    })

module _ {X E R B A : Type 0} (does : DeskSeat X E R → B → DeskSeat X E R → B → Type 0) where
  -- who is beside the workers made rounds
  abbrev pub HasMadeRounds : Job X B A E R → Job X B A E R → Type 0
  HasMadeRounds before after = RunsFrom does before.seat before.bench after.seat after.bench
