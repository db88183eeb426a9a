-- Which events may change more than an expiry does.
use Rattle.std.specs.Prelude.{◌≡◌, ◌⊎◌, ℕ, nat_lt, Bool, true, false, not, ◌&&◌, ◌||◌, ◌==◌, length}
use Rattle.m2m_names.specs.StatusCodes.{is_success}
use Rattle.primitive_json.specs.Members.{retrieves}
use Rattle.primitive_json.specs.declared.request.RequestParts.{RequestParts}
use Rattle.entity_model.specs.Entity.{EntityData, swept}
use Rattle.cse_machine.specs.Step.{took}
use Rattle.cse_machine.specs.declared.event.Event.{Event}
use Rattle.cse_machine.specs.declared.event.Event.TheVariants.{Ask, Take, Tick}
use Rattle.cse_machine.specs.declared.event.Outcome.{Outcome}
use Rattle.cse_machine.specs.declared.event.Outcome.TheVariants.{Done, Forward, Item, Ticked}
use Rattle.cse_machine.specs.declared.event.Outcome.TheVariants.{Starved}
use Rattle.journal_events.specs.Steps.{KeptEntityStep, is_next}
use Rattle.journal_events.specs.declared.event.KeptEvent.{KeptEvent}
use Rattle.journal_events.specs.declared.event.KeptEvent.TheVariants as events
use Rattle.journal_events.specs.declared.event.KeptOutcome.{KeptOutcome}
use Rattle.journal_events.specs.declared.event.KeptOutcome.TheVariants as outcomes

-- ---- by what came of it

-- a request of which this came may have changed more than an expiry does: it was served, and is no
-- Retrieve, or took an item of the outbox, as a poll does (TS-0001, 9.6.22)
abbrev pub asking_may_change : RequestParts → Bool → Outcome → Bool
asking_may_change request took_one (Done reply) =
    is_success reply.rsc && (not (retrieves request.op) || took_one)
asking_may_change request took_one (Forward poa onward) = false
asking_may_change request took_one (Item given) = false
asking_may_change request took_one Ticked = false
asking_may_change request took_one (Starved done) = false

-- an event of which this came may have changed more, by whether it took an item
abbrev pub may_change_by : Event → Bool → Outcome → Bool
may_change_by (Ask request) took_one outcome = asking_may_change request took_one outcome
may_change_by Take took_one outcome = took_one
may_change_by Tick took_one outcome = false

-- An event of which this came, where the expiry had left the first of these entities and the event
-- left the second one, may have changed more than the expiry.
abbrev pub may_change : EntityData → Event → Outcome → EntityData → Bool
may_change expired event outcome after = may_change_by event (took expired outcome after) outcome

-- a Retrieve, or the passing of time: neither changes more than an expiry does, unless a poll takes
-- an item
abbrev pub reads_alone : Event → Bool
reads_alone (Ask request) = retrieves request.op
reads_alone Take = false
reads_alone Tick = true

-- what was due is gone
abbrev pub is_ticked : Outcome → Bool
is_ticked (Done reply) = false
is_ticked (Forward poa onward) = false
is_ticked (Item given) = false
is_ticked Ticked = true
is_ticked (Starved done) = false

-- memory ran out when members of a fan-out had been served
abbrev pub is_cut_short : Outcome → Bool
is_cut_short (Done reply) = false
is_cut_short (Forward poa onward) = false
is_cut_short (Item given) = false
is_cut_short Ticked = false
is_cut_short (Starved done) = nat_lt 0 done

-- ---- of an entity that is kept

-- an event of the machine of which this came
abbrev pub machine_may_change : EntityData → Event → KeptOutcome → EntityData → Bool
machine_may_change expired asked (outcomes.OfMachine came) after =
    may_change expired asked came after
machine_may_change expired asked (outcomes.Next given) after = false
machine_may_change expired asked outcomes.Taken after = false

-- An event of an entity that is kept, of which this came, may have changed more than an expiry
-- does: by the machine, or as the item that was sent is still the next one, and is taken.
abbrev pub may_change_kept : ℕ → EntityData → KeptEvent → KeptOutcome → EntityData → Bool
may_change_kept reading before (events.OfMachine asked) came after =
    machine_may_change (swept reading before) asked came after
may_change_kept reading before events.Next came after = false
may_change_kept reading before (events.Sent number) came after =
    is_next number (swept reading before)

-- memory ran out when members of a fan-out had been served
abbrev pub is_kept_short : KeptOutcome → Bool
is_kept_short (outcomes.OfMachine came) = is_cut_short came
is_kept_short (outcomes.Next given) = false
is_kept_short outcomes.Taken = false

-- ---- by how many there are

-- resources came or went, or items did: there are as many as before of both, or not
abbrev pub differs : EntityData → EntityData → Bool
differs before after =
    not (length after.nodes == length before.nodes)
    || not (length after.items == length before.items)

-- ---- the law

-- What may not have changed more leaves the entity that the expiry leaves; or the one before it,
-- where memory ran out in the expiry.
abbrev pub WhatMayNotChangeIsAnExpiry : Type 0
WhatMayNotChangeIsAnExpiry =
    (reading : ℕ) (event : KeptEvent) (outcome : KeptOutcome) (before after : EntityData)
    → KeptEntityStep reading event before outcome after → is_kept_short outcome ≡ false
    → may_change_kept reading before event outcome after ≡ false
    → (after ≡ swept reading before) ⊎ (after ≡ before)
