-- One event of an entity that is kept.
use Rattle.std.specs.Prelude.{◌≡◌, ℕ, ◌==◌, Bool, false, if◌then◌else◌, Option, find}
use Rattle.std.specs.Option.{option_map_or}
use Rattle.notify_outbox.specs.Items.{is_to_send}
use Rattle.notify_outbox.specs.declared.item.Item.{Item}
use Rattle.entity_model.specs.Entity.{EntityData, swept, without_next}
use Rattle.cse_machine.specs.Step.{Step}
use Rattle.cse_machine.specs.declared.event.Event.{Event}
use Rattle.cse_machine.specs.declared.event.Event.TheVariants.{Tick}
use Rattle.cse_machine.specs.declared.event.Outcome.{Outcome}
use Rattle.cse_machine.specs.declared.event.Outcome.TheVariants.{Starved}
use Rattle.journal_events.specs.declared.event.KeptEvent.{KeptEvent}
use Rattle.journal_events.specs.declared.event.KeptEvent.TheVariants as events
use Rattle.journal_events.specs.declared.event.KeptOutcome.{KeptOutcome}
use Rattle.journal_events.specs.declared.event.KeptOutcome.TheVariants as outcomes

-- the item that is sent next: the first one that waits for no polling channel of the tree
abbrev pub next_item : EntityData → Option Item
next_item e = find (is_to_send e.nodes) e.items

-- it has this number
abbrev pub is_next : ℕ → EntityData → Bool
is_next number e = option_map_or (λ (item : Item). item.number == number) (next_item e) false

-- the entity without the item that is sent next, where that has this number
abbrev pub without_sent : ℕ → EntityData → EntityData
without_sent number e = if is_next number e then without_next e else e

-- Memory ran out. Nothing else was done than what the passing of time does, which is nothing where
-- memory ran out for that.
pub record OnlyExpires (reading : ℕ) (before : EntityData) (came : Outcome) (after : EntityData)
    : Type 0 where
  pub starved : came ≡ Starved 0
  pub ticked : Outcome
  pub expires : Step reading Tick before ticked after

-- What is due goes, and nothing else is done. The item is told that is sent next then.
abbrev pub Looks : ℕ → EntityData → KeptOutcome → EntityData → Type 0
Looks reading before (outcomes.OfMachine came) after = OnlyExpires reading before came after
Looks reading before (outcomes.Next given) after =
    (after ≡ swept reading before) × (given ≡ next_item after)
Looks reading before outcomes.Taken after = ⊥

-- What is due goes. Then the item that is sent next is taken, where it has this number.
abbrev pub TakesSent : ℕ → ℕ → EntityData → KeptOutcome → EntityData → Type 0
TakesSent number reading before (outcomes.OfMachine came) after =
    OnlyExpires reading before came after
TakesSent number reading before (outcomes.Next given) after = ⊥
TakesSent number reading before outcomes.Taken after =
    after ≡ without_sent number (swept reading before)

-- what comes of an event of the machine
abbrev pub StepsAsMachine : ℕ → Event → EntityData → KeptOutcome → EntityData → Type 0
StepsAsMachine reading event before (outcomes.OfMachine came) after =
    Step reading event before came after
StepsAsMachine reading event before (outcomes.Next given) after = ⊥
StepsAsMachine reading event before outcomes.Taken after = ⊥

-- What an event at a reading of the clock may give of an entity that is kept, and the entity that
-- it may leave.
abbrev pub KeptEntityStep : ℕ → KeptEvent → EntityData → KeptOutcome → EntityData → Type 0
KeptEntityStep reading (events.OfMachine asked) before came after =
    StepsAsMachine reading asked before came after
KeptEntityStep reading events.Next before came after = Looks reading before came after
KeptEntityStep reading (events.Sent number) before came after =
    TakesSent number reading before came after
