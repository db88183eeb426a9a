-- What a link has exchanged with neighbours.
use Rattle.std.specs.Prelude.{◌≡◌, ℕ, List, [], ◌∷◌, ◌++◌, Bool, true, false, ◌||◌, Option, Some}
use Rattle.std.specs.Prelude.{None, if◌then◌else◌}
use Rattle.std.specs.Option.{option_map, option_to_list}
use Rattle.std.specs.declared.result.Result.{Result}
use Rattle.std.specs.declared.result.Result.TheVariants.{Ok, Err}
use Rattle.m2m_io.specs.declared.fault.LinkFault.{LinkFault}
use Rattle.m2m_io.specs.declared.fault.LinkFault.TheVariants.{Failed, OutOfMemory}
use Rattle.m2m_io.specs.Counts.{Calls, one_more, is_exact, fails_next, after_call, after_fault}
use Rattle.m2m_io.specs.Told.{Tells}

-- one exchange: the host as it was named, the request's bytes, and the answer's, or None where it
-- failed
pub record Exchange : Type 0 where
  pub host : List ℕ
  pub request : List ℕ
  pub answer : Option (List ℕ)

-- What came of carrying one request to a neighbour: the exchange that a link made for it, if it
-- came to that, and the mark of one in which memory ran out, before the exchange, in it or behind
-- it.
pub record Carrying : Type 0 where
  pub made : Option Exchange
  pub starved : Bool

-- the exchanges that were made, in order
abbrev pub made_in : List Carrying → List Exchange
made_in [] = []
made_in (carrying ∷ rest) = option_to_list carrying.made ++ made_in rest

-- These requests were carried, and their exchanges are told behind the others.
abbrev pub TellsCarried : List Carrying → Option (List Exchange) → Option (List Exchange) → Type 0
TellsCarried carried old new = Tells (λ told. told ++ made_in carried) old new

-- one more exchange is told behind the others
abbrev pub TellsExchange : Option (List Exchange) → Option (List Exchange) → Exchange → Type 0
TellsExchange old new exchange = Tells (λ told. told ++ exchange ∷ []) old new

-- what is told after one more exchange, which stands behind the others, if any are told
abbrev pub told_behind : Option (List Exchange) → Exchange → Option (List Exchange)
told_behind told exchange = option_map (λ told. told ++ exchange ∷ []) told

-- some bytes were appended to the reply, and are told as the answer
abbrev pub TellsAnswer : Option (List Exchange) → Option (List Exchange) → List ℕ → List ℕ
    → List ℕ → List ℕ → Type 0
TellsAnswer old new host request before after = (answer : List ℕ) × (after ≡ before ++ answer)
    × TellsExchange old new (record { host = host; request = request; answer = Some answer })

-- a link in memory: the answers that are left, the exchanges where it tells them, and the calls so
-- far
pub record LinkData : Type 0 where
  pub answers : List (List ℕ)
  pub told : Option (List Exchange)
  pub calls : Calls

-- no answer is left
abbrev pub has_no_answer : List (List ℕ) → Bool
has_no_answer [] = true
has_no_answer (answer ∷ rest) = false

-- the next exchange fails: it is one of those that are to fail, or no answer is left
abbrev pub fails_next_exchange : LinkData → Bool
fails_next_exchange link = fails_next link.calls || has_no_answer link.answers

-- what is told after one more exchange: it stands behind the others, as long as the calls can be
-- counted
abbrev pub told_after : LinkData → Exchange → Option (List Exchange)
told_after link exchange =
    if is_exact (one_more link.calls.made)
    then told_behind link.told exchange else None

-- the calls after an exchange with this result: it counts as a fault where it failed
abbrev pub calls_after : {T : Type 0} → Calls → Result T LinkFault → Calls
calls_after calls (Ok done) = after_call calls
calls_after calls (Err Failed) = after_fault calls
calls_after calls (Err OutOfMemory) = after_call calls

-- An exchange that was answered took the first answer, appended it to the reply and told it.
abbrev pub TakesAnswer : LinkData → LinkData → List ℕ → List ℕ → List ℕ → List ℕ → Type 0
TakesAnswer old new host request before after = (answer : List ℕ)
    × (old.answers ≡ answer ∷ new.answers)
    × (after ≡ before ++ answer)
    × (new.told ≡ told_after old (record { host = host; request = request; answer = Some answer }))
