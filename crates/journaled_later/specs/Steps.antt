-- One event of a CSE that answers later and is kept.
use Rattle.std.specs.Prelude.{◌≡◌, ℕ, nat_lt, Bool, true, ◌&&◌, ◌||◌, Option, Some, None}
use Rattle.primitive_json.specs.declared.request.RequestParts.{RequestParts}
use Rattle.cse_machine.specs.declared.event.Event.TheVariants.{Ask, Take, Tick}
use Rattle.entity_model.specs.Entity.{EntityData, event_moment}
use Rattle.accepted_requests.specs.Sizes.{results_size}
use Rattle.later_replies.specs.Entries.{LaterData, LaterEntryData, LaterRequestsData, does_wait}
use Rattle.later_replies.specs.Entries.{still_standing}
use Rattle.later_replies.specs.Runs.{AreBounded, ArePassed, runs_all}
use Rattle.later_replies.specs.Step.{IsTakenLater}
use Rattle.journal_events.specs.Steps.{KeptEntityStep}
use Rattle.journal_events.specs.declared.event.KeptEvent.{KeptEvent}
use Rattle.journal_events.specs.declared.event.KeptEvent.TheVariants.{OfMachine, Next, Sent}
use Rattle.journal_events.specs.declared.event.KeptOutcome.{KeptOutcome}
use Rattle.journal_events.specs.declared.event.KeptOutcome.TheVariants as outcomes

-- the request of an event that asks one
abbrev pub request_of : KeptEvent → Option RequestParts
request_of (OfMachine (Ask request)) = Some request
request_of (OfMachine Take) = None
request_of (OfMachine Tick) = None
request_of Next = None
request_of (Sent number) = None

-- The event runs whatever waits, as one of who sends does.
abbrev pub runs_whatever : KeptEvent → Bool
runs_whatever (OfMachine asked) = runs_all asked
runs_whatever Next = true
runs_whatever (Sent number) = true

-- An event at a moment runs this accepted request.
abbrev pub is_run_by : ℕ → KeptEvent → LaterEntryData → Bool
is_run_by moment event e = does_wait e && (runs_whatever event || nat_lt e.accepted moment)

-- The accepted requests stay, and the event is one of the entity inside.
abbrev pub LeavesRequests : ℕ → KeptEvent → EntityData → LaterRequestsData → KeptOutcome
    → EntityData → LaterRequestsData → Type 0
LeavesRequests reading event before standing outcome after left =
    KeptEntityStep reading event before outcome after × (left ≡ standing)

-- An event of the machine is taken as by a CSE that answers later; one of who sends is one of the
-- entity inside.
abbrev pub IsTakenKept : ℕ → ℕ → KeptEvent → EntityData → LaterRequestsData → KeptOutcome
    → EntityData → LaterRequestsData → Type 0
IsTakenKept reading moment (OfMachine asked) before standing (outcomes.OfMachine came) after left =
    IsTakenLater reading moment asked before standing came after left
IsTakenKept reading moment (OfMachine asked) before standing (outcomes.Next given) after left = ⊥
IsTakenKept reading moment (OfMachine asked) before standing outcomes.Taken after left = ⊥
IsTakenKept reading moment Next before standing outcome after left =
    LeavesRequests reading Next before standing outcome after left
IsTakenKept reading moment (Sent number) before standing outcome after left =
    LeavesRequests reading (Sent number) before standing outcome after left

-- What an event at a reading of the clock may give, and what it may leave. First the requests that
-- wait are run, each as a step of the entity inside; none is done for which too much is kept. Then
-- those that are due go. Then the event is taken.
pub record KeptLaterStep (reading : ℕ) (event : KeptEvent) (before : LaterData)
    (outcome : KeptOutcome) (after : LaterData) : Type 0 where
  pub moment : ℕ
  pub at : moment ≡ event_moment before.inner.last reading
  pub ran : LaterRequestsData
  pub between : EntityData
  pub runs : ArePassed reading (is_run_by moment event) before.requests.entries before.inner
      ran.entries between
  pub bounded : AreBounded (is_run_by moment event) (results_size before.requests.entries)
      before.requests.entries ran.entries
  pub given : ran.given ≡ before.requests.given
  pub taken : IsTakenKept reading moment event between (still_standing moment ran) outcome
      after.inner after.requests
