-- An event of an entity that is kept is one of the machine.
use Rattle.std.specs.Prelude.{ℕ, if◌then◌else◌}
use Rattle.entity_model.specs.Entity.{EntityData, swept}
use Rattle.cse_machine.specs.Step.{Step}
use Rattle.cse_machine.specs.declared.event.Event.{Event}
use Rattle.cse_machine.specs.declared.event.Event.TheVariants.{Take, Tick}
use Rattle.cse_machine.specs.declared.event.Outcome.{Outcome}
use Rattle.journal_events.specs.Steps.{KeptEntityStep, is_next}
use Rattle.journal_events.specs.declared.event.KeptEvent.{KeptEvent}
use Rattle.journal_events.specs.declared.event.KeptEvent.TheVariants as events
use Rattle.journal_events.specs.declared.event.KeptOutcome.{KeptOutcome}
use Rattle.journal_events.specs.declared.event.KeptOutcome.TheVariants as outcomes

-- the event of the machine when the item of a number was sent: it is taken, where it is still the
-- one that is sent next
abbrev pub sent_event : ℕ → ℕ → EntityData → Event
sent_event number reading before = if is_next number (swept reading before) then Take else Tick

-- the event of the machine that it is, of which this came
abbrev pub machine_event : ℕ → EntityData → KeptEvent → KeptOutcome → Event
machine_event reading before (events.OfMachine asked) came = asked
machine_event reading before events.Next came = Tick
machine_event reading before (events.Sent number) (outcomes.OfMachine came) = Tick
machine_event reading before (events.Sent number) (outcomes.Next given) = Tick
machine_event reading before (events.Sent number) outcomes.Taken = sent_event number reading before

-- What is asked of an entity that is kept leaves what that event of the machine leaves: so what
-- holds of the histories of the machine holds of it.
abbrev pub EachEventIsOneOfTheMachine : Type 0
EachEventIsOneOfTheMachine =
    (reading : ℕ) (event : KeptEvent) (outcome : KeptOutcome) (before after : EntityData)
    → KeptEntityStep reading event before outcome after
    → (came : Outcome) × Step reading (machine_event reading before event outcome) before came after
