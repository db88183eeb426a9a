-- What came of an event, as it is handed on where memory may have run out for that.
use Rattle.std.specs.Prelude.{◌≡◌, ◌⊎◌, Bool, true, false, Option}
use Rattle.notify_outbox.specs.declared.item.Item.{Item}
use Rattle.cse_machine.specs.declared.event.Outcome.{Outcome}
use Rattle.cse_machine.specs.declared.event.Outcome.TheVariants as of
use Rattle.journal_events.specs.declared.event.KeptOutcome.{KeptOutcome}
use Rattle.journal_events.specs.declared.event.KeptOutcome.TheVariants.{OfMachine, Next, Taken}
use Rattle.journaled_entity.specs.Changes.{is_cut_short}

-- the request goes on to another CSE, and nothing was done here
abbrev pub goes_on : Outcome → Bool
goes_on (of.Done reply) = false
goes_on (of.Forward poa onward) = true
goes_on (of.Item given) = false
goes_on of.Ticked = false
goes_on (of.Starved done) = false

-- this item, if any, is to be sent next
abbrev pub next_told : Option Item → KeptOutcome
next_told given = Next given

-- memory ran out, and nothing was done
abbrev pub IsStarved : KeptOutcome → Type 0
IsStarved came = came ≡ OfMachine (of.Starved 0)

-- It is what came of an event of the machine; or that memory ran out, where a request goes on.
abbrev pub IsMachineHandedOn : Outcome → KeptOutcome → Type 0
IsMachineHandedOn outcome came =
    (came ≡ OfMachine outcome) ⊎ ((goes_on outcome ≡ true) × IsStarved came)

-- It is handed on as an outcome is, which isn't that memory ran out when members of a fan-out had
-- been served.
abbrev pub IsUncutHandedOn : Outcome → KeptOutcome → Type 0
IsUncutHandedOn outcome came = (is_cut_short outcome ≡ false) × IsMachineHandedOn outcome came

-- It is what was told; or that memory ran out.
abbrev pub IsToldOrStarved : KeptOutcome → KeptOutcome → Type 0
IsToldOrStarved told came = (came ≡ told) ⊎ IsStarved came

-- It is what came; or that memory ran out, where a request goes on or an item is to be sent.
abbrev pub IsHandedOn : KeptOutcome → KeptOutcome → Type 0
IsHandedOn (OfMachine outcome) came = IsMachineHandedOn outcome came
IsHandedOn (Next given) came = IsToldOrStarved (Next given) came
IsHandedOn Taken came = came ≡ Taken
