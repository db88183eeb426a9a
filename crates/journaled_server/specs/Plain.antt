-- The answers of a desk that keeps, as outcomes of the machine.
use Rattle.std.specs.Prelude.{◌≡◌, true, List, [], ◌∷◌}
use Rattle.std.specs.List.{All, flat_map}
use Rattle.turn_desk.specs.Entries.{Marked, entry_of}
use Rattle.kept_desk.specs.declared.turn.Answer.{Answer}
use Rattle.kept_desk.specs.declared.turn.Answer.TheVariants.{Kept, Lost}
use Rattle.cse_machine.specs.declared.event.Event.{Event}
use Rattle.cse_machine.specs.declared.event.Outcome.{Outcome}
use Rattle.cse_machine.specs.declared.event.Outcome.TheVariants.{Starved}
use Rattle.journal_events.specs.declared.event.KeptEvent.{KeptEvent}
use Rattle.journal_events.specs.declared.event.KeptEvent.TheVariants as event
use Rattle.journal_events.specs.declared.event.KeptOutcome.{KeptOutcome}
use Rattle.journal_events.specs.Came.{machine_outcome}

-- the outcome of the machine where it is kept; where it is lost, that memory ran out
abbrev pub plain_outcome : Answer KeptOutcome → Outcome
plain_outcome (Kept came) = machine_outcome came
plain_outcome Lost = Starved 0

-- an event of the machine and its answer as an entry of the machine; other events are none
abbrev pub plain_by : KeptEvent → Marked KeptEvent (Answer KeptOutcome)
    → List (Marked Event Outcome)
plain_by (event.OfMachine asked) m = record {
  entry = entry_of m.entry.reading asked (plain_outcome m.entry.outcome);
  own = m.own;
} ∷ []
plain_by event.Next m = []
plain_by (event.Sent number) m = []

abbrev pub plain : Marked KeptEvent (Answer KeptOutcome) → List (Marked Event Outcome)
plain m = plain_by m.entry.event m

-- where the entry is the seat's own, its event is one of the machine
abbrev pub AsksMachine : Marked KeptEvent (Answer KeptOutcome) → Type 0
AsksMachine m = m.own ≡ true → (asked : Event) × (m.entry.event ≡ event.OfMachine asked)

-- The seat grew by events and their answers, the own ones by events of the machine alone; and these
-- are the events of the machine among them, each with its outcome.
pub record PlainGrown {S : Type 0}
    (grown : S → List (Marked KeptEvent (Answer KeptOutcome)) → S → Type 0)
    (before : S) (more : List (Marked Event Outcome)) (after : S) : Type 0 where
  pub answers : List (Marked KeptEvent (Answer KeptOutcome))
  pub grew : grown before answers after
  pub of_machine : All AsksMachine answers
  pub plain_is : more ≡ flat_map plain answers
