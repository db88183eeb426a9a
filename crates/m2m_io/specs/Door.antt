-- What a door has given.
use Rattle.std.specs.Prelude.{ℕ, ◌+◌, List, Bool, true, Option, Some, None, if◌then◌else◌}
use Rattle.std.specs.declared.result.Result.{Result}
use Rattle.std.specs.declared.result.Result.TheVariants.{Ok, Err}
use Rattle.m2m_io.specs.Counts.{Calls, is_exact}

-- how many connections were given after this answer, and so many before it
abbrev pub given_after : {C E : Type 0} → Result (Option C) E → ℕ → ℕ
given_after (Ok (Some conn)) given = given + 1
given_after (Ok None) given = given
given_after (Err e) given = given

-- whether None was given after this answer
abbrev pub ended_after : {C E : Type 0} → Result (Option C) E → Bool → Bool
ended_after (Ok (Some conn)) ended = ended
ended_after (Ok None) ended = true
ended_after (Err e) ended = ended

-- A door in memory: the connections that it has still to give, the address at which it was opened,
-- if any, where it tells it, how many connections it gave, whether it gave None, and the calls so
-- far.
pub record DoorData (X : Type 0) : Type 0 where
  pub conns : List X
  pub opened : Option (Option (List ℕ))
  pub given : ℕ
  pub ended : Bool
  pub calls : Calls

-- how many connections were given, told while the calls can be counted
abbrev pub told_given : {X : Type 0} → DoorData X → Option ℕ
told_given door = if is_exact door.calls.made then Some door.given else None
