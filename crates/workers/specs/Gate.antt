-- A door from which workers take connections: what it tells, and why it gives no more.
use Rattle.std.specs.Prelude.{◌≡◌, ◌≤◌, ◌+◌, ◌⊎◌, ℕ, List, Bool, true, Option, Some, None, ⊤}
use Rattle.std.specs.declared.result.Result.{Result}
use Rattle.std.specs.declared.result.Result.TheVariants.{Ok, Err}
use Rattle.m2m_io.specs.Counts.{Rose}
use Rattle.m2m_io.specs.Told.{Tells, TellsStill}
use Rattle.workers.specs.declared.gate.Ending.{Ending}
use Rattle.workers.specs.declared.gate.Ending.TheVariants.{Over, Enough, Fault}

-- What a door tells at one moment: at what address it was opened, if it was, how many connections
-- it gave, whether it gave None, and how often it has failed.
pub record DoorTold : Type 0 where
  pub opened : Option (Option (List ℕ))
  pub given : Option ℕ
  pub ended : Option Bool
  pub faults : ℕ

-- what this door tells
abbrev pub door_tells : {D : Type 0} → (D → Option (Option (List ℕ))) → (D → Option ℕ)
    → (D → Option Bool) → (D → ℕ) → D → DoorTold
door_tells opened given ended faults door = record {
  opened = opened door;
  given = given door;
  ended = ended door;
  faults = faults door;
}

-- nothing is told, and nothing failed
abbrev pub silent_door : DoorTold
silent_door = record { opened = None; given = None; ended = None; faults = 0 }

-- a door that is shared, how many connections it may still give, and why it gives no more
pub record GateData (D : Type 0) : Type 0 where
  pub door : D
  pub left : Option ℕ
  pub ending : Option Ending

-- The gate gives no more connections.
abbrev pub HasEnded : Option Ending → Type 0
HasEnded ending = (why : Ending) × (ending ≡ Some why)

-- no more than are to be accepted, where that is limited
abbrev pub AtMostAccepted : Option ℕ → ℕ → Type 0
AtMostAccepted None count = ⊤
AtMostAccepted (Some most) count = count ≤ most

-- so many were taken of those that are to be accepted, and so many are left
abbrev pub CountsDown : Option ℕ → ℕ → Option ℕ → Type 0
CountsDown None count None = ⊤
CountsDown None count (Some left) = ⊥
CountsDown (Some most) count None = ⊥
CountsDown (Some most) count (Some left) = count + left ≡ most

-- one less may be taken, where that is limited
abbrev pub IsOneLess : Option ℕ → Option ℕ → Type 0
IsOneLess None None = ⊤
IsOneLess None (Some less) = ⊥
IsOneLess (Some left) None = ⊥
IsOneLess (Some left) (Some less) = less + 1 ≡ left

-- Why no more connections are taken, if so, after so many: the door gave None, as many were taken
-- as were to be accepted, or it failed. Its faults rose in the last case alone.
abbrev pub EndsAs : Option Ending → Option ℕ → ℕ → DoorTold → DoorTold → Type 0
EndsAs None accept count start now =
    (now.faults ≡ start.faults) × TellsStill start.ended now.ended
EndsAs (Some Over) accept count start now =
    (now.faults ≡ start.faults) × Tells (λ _. true) start.ended now.ended
EndsAs (Some Enough) accept count start now =
    (now.faults ≡ start.faults) × TellsStill start.ended now.ended × (accept ≡ Some count)
EndsAs (Some Fault) accept count start now =
    Rose start.faults now.faults × TellsStill start.ended now.ended

-- Connections were taken from a door, none more than are to be accepted, and why no more are, if
-- so.
pub record TakesConnections (accept : Option ℕ) (ending : Option Ending) (start now : DoorTold)
    : Type 0 where
  pub count : ℕ
  pub few : AtMostAccepted accept count
  pub given : Tells (λ given. given + count) start.given now.given
  pub opened : TellsStill start.opened now.opened
  pub ends : EndsAs ending accept count start now

-- Connections were taken from a door that told `start`, and so many may be still.
pub record Guards (accept : Option ℕ) (start now : DoorTold) (left : Option ℕ)
    (ending : Option Ending) : Type 0 where
  pub takes : TakesConnections accept ending start now
  pub counted : CountsDown accept takes.count left

-- how many connections a door gave, once this came of asking for one more
abbrev pub with_taken : {A B : Type 0} → Result A B → ℕ → ℕ
with_taken (Ok conn) given = given + 1
with_taken (Err ended) given = given

-- The door was served to its end: it gave None, or as many connections as were to be accepted, and
-- it didn't fail.
abbrev pub ServesDoor : Option ℕ → DoorTold → DoorTold → Type 0
ServesDoor accept start now =
    TakesConnections accept (Some Over) start now ⊎ TakesConnections accept (Some Enough) start now
