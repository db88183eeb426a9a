-- No item of the outbox is lost (TS-0001, 10.2.10).
use Rattle.std.specs.Prelude.{◌≡◌, ◌⊎◌, ℕ, false, List, [], ◌∷◌, Contains, IsTrue, Some}
use Rattle.turn_desk.specs.Entries.{Runs}
use Rattle.kept_desk.specs.Kept.{Reported}
use Rattle.kept_desk.specs.declared.turn.Report.{Report}
use Rattle.kept_desk.specs.declared.turn.Report.TheVariants.{Done as Did, Settled, Failed}
use Rattle.kept_desk.specs.declared.turn.Turn.{Turn}
use Rattle.kept_desk.specs.declared.turn.Turn.TheVariants.{Do, Settle}
use Rattle.kept_object.specs.State.{KeptData}
use Rattle.kept_object.specs.Steps.{KeptStep}
use Rattle.primitive_json.specs.declared.reply.ReplyParts.{ReplyParts}
use Rattle.notify_outbox.specs.Items.{still_waits}
use Rattle.notify_outbox.specs.declared.item.Item.{Item}
use Rattle.entity_model.specs.Entity.{EntityData}
use Rattle.retrieve_discover.specs.Polling.{handed_on}
use Rattle.cse_machine.specs.declared.event.Event.{Event}
use Rattle.cse_machine.specs.declared.event.Event.TheVariants.{Ask, Take, Tick}
use Rattle.cse_machine.specs.declared.event.Outcome.{Outcome}
use Rattle.cse_machine.specs.declared.event.Outcome.TheVariants.{Done, Forward, Item as Given}
use Rattle.cse_machine.specs.declared.event.Outcome.TheVariants.{Ticked, Starved}
use Rattle.journal_events.specs.Steps.{KeptEntityStep}
use Rattle.journal_events.specs.declared.event.KeptEvent.{KeptEvent}
use Rattle.journal_events.specs.declared.event.KeptEvent.TheVariants as events
use Rattle.journal_events.specs.declared.event.KeptOutcome.{KeptOutcome}
use Rattle.journal_events.specs.declared.event.KeptOutcome.TheVariants as outcomes
use Rattle.journaled_entity.specs.Keeping.{KeepsEntity}

-- A turn of an entity that is kept, and the report on it.
abbrev pub Turned : Type 0
Turned = Reported KeptEvent KeptOutcome

-- ---- how an item leaves the outbox

-- the reply hands the item on to who polls (TS-0004, 8.2.4)
abbrev pub HandsOn : Item → ReplyParts → Type 0
HandsOn item reply = reply.pc ≡ Some (handed_on item.note)

-- an event of the machine, of which this came, gave the item to who polls, or to who asked for the
-- next one
abbrev pub IsGivenBy : Item → Event → Outcome → Type 0
IsGivenBy item (Ask request) (Done reply) = HandsOn item reply
IsGivenBy item (Ask request) (Forward poa onward) = ⊥
IsGivenBy item (Ask request) (Given given) = ⊥
IsGivenBy item (Ask request) Ticked = ⊥
IsGivenBy item (Ask request) (Starved done) = ⊥
IsGivenBy item Take came = came ≡ Given (Some item.note)
IsGivenBy item Tick came = ⊥

-- An event of an entity that is kept, of which this came: the machine gave the item away, or it was
-- said that the item of its number was sent.
abbrev pub LeavesBy : Item → KeptEvent → KeptOutcome → Type 0
LeavesBy item (events.OfMachine asked) (outcomes.OfMachine came) = IsGivenBy item asked came
LeavesBy item (events.OfMachine asked) (outcomes.Next given) = ⊥
LeavesBy item (events.OfMachine asked) outcomes.Taken = ⊥
LeavesBy item events.Next came = ⊥
LeavesBy item (events.Sent number) came = number ≡ item.number

-- such an event was done at a turn
abbrev pub LeavesAt : Item → Turn KeptEvent → Report KeptOutcome → Type 0
LeavesAt item (Do event) (Did came settled) = LeavesBy item event came
LeavesAt item (Do event) Settled = ⊥
LeavesAt item (Do event) Failed = ⊥
LeavesAt item Settle report = ⊥

-- at one of these turns
abbrev pub LeavesAtOne : Item → List Turned → Type 0
LeavesAtOne item [] = ⊥
LeavesAtOne item (turn ∷ turns) = LeavesAt item turn.event turn.outcome ⊎ LeavesAtOne item turns

-- ---- the law

-- Over turns that were done, an item of the outbox that hasn't waited the keeping time by their end
-- is still there, or left it at one of them.
abbrev pub NoItemIsLost : {F : Type 0} → Type 0 → (F → List ℕ) → (F → List ℕ → Type 0) → (F → ℕ)
    → (F → ℕ → List ℕ → Type 0) → Type 0
NoItemIsLost {F = F} tells seen may_leave moment left_since =
    (before after : KeptData EntityData F) (turns : List Turned) (item : Item)
    → Runs (KeptStep KeptEntityStep KeepsEntity tells seen may_leave moment left_since)
    before turns after
    → after.journal.is_failed ≡ false
    → Contains before.object.items item → IsTrue (still_waits after.object.last item)
    → Contains after.object.items item ⊎ LeavesAtOne item turns
