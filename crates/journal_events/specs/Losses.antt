-- An item leaves the outbox by who sends it only once it was sent (TS-0001, 10.2.10).
use Rattle.std.specs.Prelude.{◌≡◌, ◌⊎◌, ℕ, Contains, IsTrue, Some, ⊤}
use Rattle.notify_outbox.specs.Items.{still_waits}
use Rattle.notify_outbox.specs.declared.item.Item.{Item}
use Rattle.entity_model.specs.Entity.{EntityData, event_moment}
use Rattle.journal_events.specs.Steps.{KeptEntityStep}
use Rattle.journal_events.specs.declared.event.KeptEvent.{KeptEvent}
use Rattle.journal_events.specs.declared.event.KeptEvent.TheVariants as events
use Rattle.journal_events.specs.declared.event.KeptOutcome.{KeptOutcome}
use Rattle.journal_events.specs.declared.event.KeptOutcome.TheVariants as outcomes

-- an event of who sends what waits in the outbox
abbrev pub IsOfSender : KeptEvent → Type 0
IsOfSender (events.OfMachine asked) = ⊥
IsOfSender events.Next = ⊤
IsOfSender (events.Sent number) = ⊤

-- By who sends, an item that is in the outbox, and hasn't waited the keeping time, leaves it only
-- by the event which says that the item of its number was sent.
abbrev pub AnItemStaysUntilItWasSent : Type 0
AnItemStaysUntilItWasSent =
    (reading : ℕ) (event : KeptEvent) (outcome : KeptOutcome) (before after : EntityData)
    (item : Item)
    → IsOfSender event → KeptEntityStep reading event before outcome after
    → Contains before.items item
    → IsTrue (still_waits (event_moment before.last reading) item)
    → Contains after.items item ⊎ (event ≡ events.Sent item.number)

-- The item that is told to be sent next is in the outbox, and stays there.
abbrev pub WhatIsToldStays : Type 0
WhatIsToldStays =
    (reading : ℕ) (before after : EntityData) (item : Item)
    → KeptEntityStep reading events.Next before (outcomes.Next (Some item)) after
    → Contains after.items item
