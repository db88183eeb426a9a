-- How a worker attends to a connection at a desk of a kept object, and how items are sent beside
-- it.
use Rattle.std.specs.Prelude.{ℕ, List, Option}
use Rattle.std.specs.declared.alloc.AllocError.{AllocError}
use Rattle.std.specs.declared.result.Result.{Result}
use Rattle.turn_desk.specs.Entries.{Marked}
use Rattle.turn_desk.specs.Seats.{known_to}
use Rattle.turn_desk.specs.Shared.{Grows}
use Rattle.turn_desk.specs.declared.shared.DeskSeat.{DeskSeat}
use Rattle.kept_desk.specs.Kept.{KeptGrown}
use Rattle.kept_desk.specs.declared.turn.Turn.{Turn}
use Rattle.kept_desk.specs.declared.turn.Report.{Report}
use Rattle.cse_machine.specs.declared.event.Event.{Event}
use Rattle.cse_machine.specs.declared.event.Outcome.{Outcome}
use Rattle.journal_events.specs.declared.event.KeptEvent.{KeptEvent}
use Rattle.journal_events.specs.declared.event.KeptOutcome.{KeptOutcome}
use Rattle.desk_replies.specs.Asking.{Asked}
use Rattle.cse_server.specs.Attending.{AttendsBy}
use Rattle.cse_server.specs.Outside.{LinkTold}
use Rattle.cse_server.specs.declared.bench.Bench.{Bench}
use Rattle.journaled_server.specs.Plain.{PlainGrown}
use Rattle.journaled_server.specs.Sending.{SendsThenTakes, sender}

-- a seat of a shared desk of a kept object grew by these turns
abbrev pub TurnsGrow : {X : Type 0} → DeskSeat X (Turn KeptEvent) (Report KeptOutcome)
    → List (Marked (Turn KeptEvent) (Report KeptOutcome))
    → DeskSeat X (Turn KeptEvent) (Report KeptOutcome) → Type 0
TurnsGrow before more after = Grows (known_to before) more (known_to after)

-- The seat grew by turns of a kept object, and these are the events among them, each with what may
-- be answered: its outcome, where a report says that it is kept, and else that memory ran out.
abbrev pub AnswersGrown : {S : Type 0}
    → (S → List (Marked (Turn KeptEvent) (Report KeptOutcome)) → S → Type 0)
    → S → List (Marked Event Outcome) → S → Type 0
AnswersGrown grown = PlainGrown (KeptGrown grown)

-- A connection came and was attended to at a seat by a binding, with what lies at a bench: by what
-- may be answered.
abbrev pub AttendsKeptBy : {S X C L A : Type 0}
    → (S → List (Marked (Turn KeptEvent) (Report KeptOutcome)) → S → Type 0)
    → (X → Asked → A → Type 0) → (C → Option (List ℕ)) → (L → LinkTold)
    → S → X → Bench C L → S → A → Bench C L → Type 0
AttendsKeptBy grown talks clock link = AttendsBy (AnswersGrown grown) talks clock link

-- By one call of `send_kept` items that waited in an outbox were sent at a seat, with what lies at
-- a bench, and behind each the seat said so. This came of it.
pub record SendsKept {S C L : Type 0}
    (grown : S → List (Marked (Turn KeptEvent) (Report KeptOutcome)) → S → Type 0)
    (clock : C → Option (List ℕ)) (link : L → LinkTold)
    (before : S) (bench : Bench C L) (after : S) (left : Bench C L) : Type 0 where
  pub result : Result ℕ AllocError
  pub sends : SendsThenTakes (KeptGrown grown)
      (sender before (clock bench.clock) (link bench.link))
      (sender after (clock left.clock) (link left.link)) result
