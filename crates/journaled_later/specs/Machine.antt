-- What is asked of a CSE that answers later and is kept, as events of one that answers later.
use Rattle.std.specs.Prelude.{◌≡◌, ◌⊎◌, ℕ, false, List, [], ◌∷◌, ⊤}
use Rattle.turn_desk.specs.Entries.{Runs}
use Rattle.turn_desk.specs.declared.entry.Entry.{Entry}
use Rattle.cse_machine.specs.History.{History}
use Rattle.cse_machine.specs.declared.event.Event.{Event}
use Rattle.cse_machine.specs.declared.event.Event.TheVariants.{Take, Tick}
use Rattle.cse_machine.specs.declared.event.Outcome.{Outcome}
use Rattle.later_replies.specs.Entries.{LaterData}
use Rattle.later_replies.specs.Step.{LaterStep}
use Rattle.kept_desk.specs.Kept.{Reported}
use Rattle.kept_desk.specs.declared.turn.Report.{Report}
use Rattle.kept_desk.specs.declared.turn.Report.TheVariants.{Done as Did, Settled, Failed}
use Rattle.kept_desk.specs.declared.turn.Turn.{Turn}
use Rattle.kept_desk.specs.declared.turn.Turn.TheVariants.{Do, Settle}
use Rattle.kept_object.specs.State.{KeptData}
use Rattle.kept_object.specs.Steps.{KeptStep}
use Rattle.journal_events.specs.Machine.{machine_event}
use Rattle.journal_events.specs.declared.event.KeptEvent.{KeptEvent}
use Rattle.journal_events.specs.declared.event.KeptEvent.TheVariants.{OfMachine, Next, Sent}
use Rattle.journal_events.specs.declared.event.KeptOutcome.{KeptOutcome}
use Rattle.journal_events.specs.declared.event.KeptOutcome.TheVariants as outcomes
use Rattle.journaled_later.specs.Keeping.{KeepsLater}
use Rattle.journaled_later.specs.Steps.{KeptLaterStep}

-- the outcome of an event of the machine is told as it is
abbrev pub IsToldAs : KeptEvent → KeptOutcome → Outcome → Type 0
IsToldAs (OfMachine asked) (outcomes.OfMachine told) came = came ≡ told
IsToldAs (OfMachine asked) (outcomes.Next given) came = ⊥
IsToldAs (OfMachine asked) outcomes.Taken came = ⊥
IsToldAs Next outcome came = ⊤
IsToldAs (Sent number) outcome came = ⊤

-- What is asked of a CSE that answers later and is kept leaves what one event leaves of one that
-- answers later, at that reading. An event of the machine is that event, and has its outcome; for
-- one of who sends, the entity inside decides which, as the runs leave it.
abbrev pub EachIsOneOfLater : Type 0
EachIsOneOfLater =
    (reading : ℕ) (event : KeptEvent) (outcome : KeptOutcome) (before after : LaterData)
    → (step : KeptLaterStep reading event before outcome after)
    → (came : Outcome)
    × LaterStep reading (machine_event reading step.between event outcome) before came after
    × IsToldAs event outcome came

-- ---- turns

-- a turn of a CSE that answers later and is kept, and the report on it
abbrev pub LaterTurned : Type 0
LaterTurned = Reported KeptEvent KeptOutcome

-- An event of the machine is asked as itself, and has its outcome. One of who sends takes an item or
-- none, and asks no request.
abbrev pub IsAskedAs : KeptEvent → KeptOutcome → Event → Outcome → Type 0
IsAskedAs (OfMachine asked) (outcomes.OfMachine told) event came = (event ≡ asked) × (came ≡ told)
IsAskedAs (OfMachine asked) (outcomes.Next given) event came = ⊥
IsAskedAs (OfMachine asked) outcomes.Taken event came = ⊥
IsAskedAs Next outcome event came = event ≡ Tick
IsAskedAs (Sent number) outcome event came = (event ≡ Take) ⊎ (event ≡ Tick)

-- a history has one event more, at this reading, for an event that was done at a turn
abbrev pub HasOneFor : ℕ → Turn KeptEvent → Report KeptOutcome → History → History → Type 0
HasOneFor reading (Do event) (Did came settled) history rest =
    (e : Entry Event Outcome) × (history ≡ e ∷ rest) × (e.reading ≡ reading)
    × IsAskedAs event came e.event e.outcome
HasOneFor reading (Do event) Settled history rest = history ≡ rest
HasOneFor reading (Do event) Failed history rest = history ≡ rest
HasOneFor reading Settle report history rest = history ≡ rest

-- The history has an event for each that was done at turns, at its reading, in order.
abbrev pub IsHistoryOf : List LaterTurned → History → Type 0
IsHistoryOf [] history = history ≡ []
IsHistoryOf (turn ∷ turns) history = (rest : History)
    × HasOneFor turn.reading turn.event turn.outcome history rest × IsHistoryOf turns rest

-- What turns made of a CSE that answers later and is kept, at none of which the journal failed, is
-- what a history of one that answers later leaves, which has an event for each that was done. So
-- the laws of such histories hold of turns.
abbrev pub TurnsAreHistories : {F : Type 0} → Type 0 → (F → List ℕ) → (F → List ℕ → Type 0)
    → (F → ℕ) → (F → ℕ → List ℕ → Type 0) → Type 0
TurnsAreHistories {F = F} tells seen may_leave moment left_since =
    (before after : KeptData LaterData F) (turns : List LaterTurned)
    → Runs (KeptStep KeptLaterStep KeepsLater tells seen may_leave moment left_since)
    before turns after
    → after.journal.is_failed ≡ false
    → (history : History) × IsHistoryOf turns history
    × Runs LaterStep before.object history after.object
