-- What a talker gives and takes.
use Rattle.std.specs.Prelude.{◌≡◌, ◌≤◌, ◌⊎◌, ⊤, ℕ, List, [], ◌∷◌, ◌++◌, Option, None, Some}
use Rattle.std.specs.declared.result.Result.{Result}
use Rattle.std.specs.declared.result.Result.TheVariants.{Ok, Err}
use Rattle.m2m_io.specs.Counts.{Rose}
use Rattle.m2m_io.specs.Told.{Tells, TellsStill}
use Rattle.ws_binding.specs.declared.talker.Got.{Got}
use Rattle.ws_binding.specs.declared.talker.Got.TheVariants.{Payload, End}
use Rattle.ws_binding.specs.declared.talker.TalkFault.{TalkFault}
use Rattle.ws_binding.specs.declared.talker.TalkFault.TheVariants.{Failed, OutOfMemory}

-- What a talker tells: the payloads that are to come, and those that were said.
pub record TalkTold : Type 0 where
  pub to_come : Option (List (List ℕ))
  pub said : Option (List (List ℕ))

abbrev pub talk_told : Option (List (List ℕ)) → Option (List (List ℕ)) → TalkTold
talk_told to_come said = record { to_come = to_come; said = said }

-- These payloads were taken from the front of those to come. A talker may stop telling, and one
-- that told nothing tells nothing from then on.
abbrev pub Takes : List (List ℕ) → Option (List (List ℕ)) → Option (List (List ℕ)) → Type 0
Takes given old None = ⊤
Takes given None (Some new) = ⊥
Takes given (Some old) (Some new) = old ≡ given ++ new

-- no payload is to come
abbrev pub NoneToCome : Option (List (List ℕ)) → Type 0
NoneToCome None = ⊤
NoneToCome (Some left) = left ≡ []

-- what a call of `receive` took; where the end comes, nothing is to come
abbrev pub Receives : Option (List (List ℕ)) → Option (List (List ℕ)) → Result Got TalkFault
    → Type 0
Receives old new (Ok (Payload payload)) = Takes (payload ∷ []) old new
Receives old new (Ok End) = Takes [] old new × NoneToCome new
Receives old new (Err fault) = Takes [] old new

-- these payloads were said
abbrev pub SaysAll : List (List ℕ) → Option (List (List ℕ)) → Option (List (List ℕ)) → Type 0
SaysAll payloads old new = Tells (λ said. said ++ payloads) old new

-- one payload was said, or it wasn't
abbrev pub MaySay : List ℕ → Option (List (List ℕ)) → Option (List (List ℕ)) → Type 0
MaySay payload old new = SaysAll (payload ∷ []) old new ⊎ TellsStill old new

-- what a call that failed so does to the count of faults
abbrev pub CountsTalkFault : TalkFault → ℕ → ℕ → Type 0
CountsTalkFault Failed before now = (before ≤ now) × Rose before now
CountsTalkFault OutOfMemory before now = now ≡ before
