-- What the commands `http` and `serve` do over a journal.
use Rattle.std.specs.Bool.{MatchBool}
use Rattle.std.specs.Prelude.{◌≡◌, ◌≢◌, ◌⊎◌, ℕ, ◌+◌, max, take, Bool, List, Option, Some, None}
use Rattle.std.specs.Prelude.{if◌then◌else◌}
use Rattle.std.specs.declared.alloc.AllocError.{AllocError}
use Rattle.std.specs.declared.result.Result.{Result}
use Rattle.m2m_io.specs.declared.status.Status.{Status}
use Rattle.m2m_io.specs.declared.status.Status.TheVariants.{BadStream, Done, Memory, ReadFault}
use Rattle.m2m_io.specs.declared.status.Status.TheVariants.{Usage, WriteFault}
use Rattle.turn_desk.specs.Entries.{Marked}
use Rattle.turn_desk.specs.Growth.{IsOwnRun}
use Rattle.kept_desk.specs.Kept.{KeptGrown}
use Rattle.kept_desk.specs.declared.turn.Answer.{Answer}
use Rattle.kept_desk.specs.declared.turn.Turn.{Turn}
use Rattle.kept_desk.specs.declared.turn.Report.{Report}
use Rattle.kept_object.specs.State.{KeptData}
use Rattle.kept_object.specs.Steps.{KeptStep}
use Rattle.resource_model.specs.Home.{HomeData}
use Rattle.entity_model.specs.Entity.{EntityData}
use Rattle.journal_events.specs.Steps.{KeptEntityStep}
use Rattle.journal_events.specs.declared.event.KeptEvent.{KeptEvent}
use Rattle.journal_events.specs.declared.event.KeptOutcome.{KeptOutcome}
use Rattle.remote_members.specs.Wide.{wide}
use Rattle.cse_server.specs.Connection.{Serves}
use Rattle.cse_server.specs.Outside.{LinkTold, Outside, outside, sink_told}
use Rattle.cse_server.specs.declared.bench.Bench.{Bench}
use Rattle.cse_server.specs.declared.connection.Ended.{Ended}
use Rattle.cse_server.specs.declared.connection.Ended.TheVariants.{Closed, NoFrame}
use Rattle.cse_server.specs.declared.connection.Ended.TheVariants.{ReadFault as EndedReading}
use Rattle.cse_server.specs.declared.connection.Ended.TheVariants.{WriteFault as EndedWriting}
use Rattle.cse_server.specs.declared.connection.Ended.TheVariants.{Memory as EndedStarved}
use Rattle.command_words.specs.Command.{Serving, Task, http, replay, twin, serve}
use Rattle.command_words.specs.Line.{answers_later, may_keep}
use Rattle.command_words.specs.Command.{generate}
use Rattle.cse_cli.specs.Run.{status_behind}
use Rattle.cse_cli.specs.Serve.{ByBind, ServesObject}
use Rattle.turn_desk.specs.declared.shared.DeskSeat.{DeskSeat}
use Rattle.journal_opening.specs.Opening.{IsRefused, StaysAsItWas}
use Rattle.journal_opening.specs.declared.fault.OpeningFault.{OpeningFault}
use Rattle.journal_opening.specs.declared.fault.OpeningFault.TheVariants.{NoHeader, OtherFormat}
use Rattle.journal_opening.specs.declared.fault.OpeningFault.TheVariants.{OtherHome, BadLine}
use Rattle.journal_opening.specs.declared.fault.OpeningFault.TheVariants.{BadSnapshot, Unsound}
use Rattle.journal_opening.specs.declared.fault.OpeningFault.TheVariants.{OldDeed, Failed, LaterWord}
use Rattle.journal_opening.specs.declared.fault.OpeningFault.TheVariants.{OutOfMemory}
use Rattle.journaled_entity.specs.Keeping.{KeepsEntity}
use Rattle.journaled_entity.specs.Opened.{OpensAt}
use Rattle.later_replies.specs.Entries.{LaterData}
use Rattle.later_opening.specs.Opening.{IsRefusedLater}
use Rattle.journaled_later.specs.Keeping.{KeepsLater}
use Rattle.journaled_later.specs.Opened.{OpensLaterAt}
use Rattle.journaled_later.specs.Steps.{KeptLaterStep}
use Rattle.journaled_server.specs.Sending.{SendsThenTakes, sender}
use Rattle.journaled_server.specs.Serving.{AnswersGrown}

-- What input, output, and the clock and the link of a bench tell by these functions.
abbrev pub outside_by : {S O C L : Type 0} → (S → Option (List ℕ)) → (O → Option (List ℕ))
    → (O → Option ℕ) → (C → Option (List ℕ)) → (L → LinkTold) → S → O → Bench C L → Outside
outside_by left written puts readings link_tells input out bench =
    outside (left input) (sink_told (written out) (puts out)) (readings bench.clock)
    (link_tells bench.link)

-- a seat of a desk of an entity that is kept in a file
abbrev pub KeptSeat : Type 0 → Type 0 → Type 0
KeptSeat X F = DeskSeat (KeptData X F) (Turn KeptEvent) (Report KeptOutcome)

-- the steps of what is kept, and which texts keep it
abbrev pub StepOf : Type 0 → Type 1
StepOf X = ℕ → KeptEvent → X → KeptOutcome → X → Type 0

abbrev pub KeepsOf : Type 0 → Type 1
KeepsOf X = X → List ℕ → Type 0

-- the turns of an object that is kept in a file: of an entity, or of a CSE that answers later
abbrev pub KeptTurns : {X F : Type 0} → StepOf X → KeepsOf X → Type 0 → (F → List ℕ)
    → (F → List ℕ → Type 0) → (F → ℕ) → (F → ℕ → List ℕ → Type 0) → ℕ → Turn KeptEvent
    → KeptData X F → Report KeptOutcome → KeptData X F → Type 0
KeptTurns step keeps tells seen may_leave moment left_since =
    KeptStep step keeps tells seen may_leave moment left_since

-- the status, or that writing failed, where the journal has
abbrev pub status_of : Bool → Status → Status
status_of failed status = if failed then WriteFault else status

module _ {S : Type 0} (grown : S → List (Marked KeptEvent (Answer KeptOutcome)) → S → Type 0) where
  -- The items that a connection left in an outbox were sent, each before it was taken. Nothing was
  -- read or written.
  pub record SendsBehind (before after : S) (old new : Outside) (whole status : Status)
      : Type 0 where
    pub result : Result ℕ AllocError
    pub sends : SendsThenTakes grown (sender before old.readings old.link)
        (sender after new.readings new.link) result
    pub left : new.left ≡ old.left
    pub out : new.out ≡ old.out
    pub status_is : status ≡ status_behind whole result

  -- What is done behind a connection that ended so: where it was closed, or what was left of it was
  -- no message, the items are sent; and else nothing.
  abbrev pub EndsBehind : Ended → S → S → Outside → Outside → Status → Type 0
  EndsBehind Closed before after old new status = SendsBehind before after old new Done status
  EndsBehind NoFrame before after old new status =
      SendsBehind before after old new BadStream status
  EndsBehind EndedReading before after old new status =
      (status ≡ ReadFault) × (after ≡ before) × (new ≡ old)
  EndsBehind EndedWriting before after old new status =
      (status ≡ WriteFault) × (after ≡ before) × (new ≡ old)
  EndsBehind EndedStarved before after old new status =
      (status ≡ Memory) × (after ≡ before) × (new ≡ old)

-- Input and output were served as one connection of an object that is kept, for the CSE of this
-- home, and then what it left in the outbox was sent. The turns, for requests and behind each for
-- those to members at other CSEs, were taken by that object, one after another, and by nobody else.
pub record ServesStreams {X F : Type 0} (turns : ℕ → Turn KeptEvent → KeptData X F
    → Report KeptOutcome → KeptData X F → Type 0) (home : HomeData)
    (opened : KeptData X F) (old new : Outside) (status : Status) : Type 0 where
  pub between : KeptData X F
  pub after : KeptData X F
  pub served : Outside
  pub ended : Ended
  pub sent : Status
  pub serves : Serves (wide home) (AnswersGrown (IsOwnRun turns)) opened between old served ended
  pub behind : EndsBehind (KeptGrown (IsOwnRun turns)) ended between after served new sent
  pub status_is : status ≡ status_of after.journal.is_failed sent

-- the status where a file isn't opened for this fault
abbrev pub refusal : OpeningFault → Status
refusal NoHeader = BadStream
refusal OtherFormat = BadStream
refusal OtherHome = BadStream
refusal (BadSnapshot number) = BadStream
refusal Unsound = BadStream
refusal (BadLine number) = BadStream
refusal (OldDeed number) = BadStream
refusal (LaterWord number) = BadStream
refusal Failed = ReadFault
refusal OutOfMemory = Memory

-- Nobody was served: for this fault a file with these bytes isn't opened by a home. They are
-- refused by what stands in them, unless the file failed or memory ran out. The file is given back,
-- and unless it failed it stays as it was, at each moment.
pub record ServesNone {F : Type 0} (refused_by : HomeData → List ℕ → OpeningFault → Type 0)
    (tells : Type 0) (seen : F → List ℕ) (may_leave : F → List ℕ → Type 0) (moment : F → ℕ)
    (left_since : F → ℕ → List ℕ → Type 0)
    (home : HomeData) (file : F) (old new : Outside) (back : Option F) (status : Status)
    : Type 0 where
  pub fault : OpeningFault
  pub left : F
  pub refused : tells → refused_by home (seen file) fault
  pub back_is : back ≡ Some left
  pub stays : tells → fault ≢ Failed → StaysAsItWas seen may_leave moment left_since file left
  pub status_is : status ≡ refusal fault
  pub same : new ≡ old

-- At a desk of this object connections were attended to, and it has become this one.
pub record LeavesServed {X E R C B A : Type 0} (step : ℕ → E → X → R → X → Type 0)
    (attends : DeskSeat X E R → C → B → DeskSeat X E R → A → B → Type 0)
    (does : DeskSeat X E R → B → DeskSeat X E R → B → Type 0)
    (benches : List B) (object : X) (old new : B) (left : X) : Type 0 where
  pub served : ServesObject step attends does benches object old new
  pub left_is : served.left ≡ left

-- The door failed to open, or memory ran out before: nothing changed.
pub record StaysShut {B : Type 0} (old new : B) (status : Status) : Type 0 where
  pub status_is : (status ≡ Memory) ⊎ (status ≡ ReadFault)
  pub same : new ≡ old

module _ {X F : Type 0} (step : StepOf X) (keeps : KeepsOf X) (tells : Type 0)
    (seen : F → List ℕ) (may_leave : F → List ℕ → Type 0)
    (moment : F → ℕ) (left_since : F → ℕ → List ℕ → Type 0) where
  -- Connections were attended to at a desk of an object that is kept, as at one of any object; and
  -- the status says that all is well or that the door failed, or that writing failed where the
  -- journal has.
  abbrev pub ServesKept : {C B A : Type 0} → (KeptSeat X F → C → B → KeptSeat X F → A → B → Type 0)
      → (KeptSeat X F → B → KeptSeat X F → B → Type 0)
      → List B → B → B → KeptData X F → Status → Type 0
  ServesKept attends does benches old new opened status =
      (served : ServesObject (KeptTurns step keeps tells seen may_leave moment left_since) attends
      does benches opened old new)
      × ((status ≡ status_of served.left.journal.is_failed Done)
      ⊎ (status ≡ status_of served.left.journal.is_failed ReadFault))

  -- That, each connection being attended to as HTTP at this home or each as a WebSocket, as the
  -- words say, by as many workers as they say, where there are benches for so many, beside an errand.
  abbrev pub ServesByWords : {C B A W : Type 0}
      → (HomeData → KeptSeat X F → C → B → KeptSeat X F → A → B → Type 0)
      → (KeptSeat X F → C → B → KeptSeat X F → W → B → Type 0)
      → (KeptSeat X F → B → KeptSeat X F → B → Type 0)
      → List B → B → B → HomeData → Serving → KeptData X F → Status → Type 0
  ServesByWords by_http by_ws does benches old new home serving opened status =
      ByBind serving.bind
      (ServesKept (by_http home) does (take (max 1 serving.workers + 1) benches) old new opened
      status)
      (ServesKept by_ws does (take (max 1 serving.workers + 1) benches) old new opened status)

  -- The command `serve` with an entity that was opened: connections were `served` by it, or nobody
  -- was. Nothing was read of the input or written to the output.
  pub record ServesDoor (served : KeptData X F → Status → Type 0)
      (opened : KeptData X F) (old new : Outside) (status : Status) : Type 0 where
    pub left : new.left ≡ old.left
    pub out : new.out ≡ old.out
    pub serves : served opened status ⊎ StaysShut old new status

  -- What is done for a task with an entity that was opened at the journal of this home. With `http`
  -- input and output were served as one connection of it, and with `serve` connections of the door.
  -- Nothing else is done so.
  abbrev pub DoesKept : (HomeData → Serving → KeptData X F → Status → Type 0) → Task
      → HomeData → KeptData X F → Outside → Outside → Status → Type 0
  DoesKept served (http later) home opened old new status =
      ServesStreams (KeptTurns step keeps tells seen may_leave moment left_since) home opened old
      new status
  DoesKept served replay home opened old new status = (status ≡ Usage) × (new ≡ old)
  DoesKept served twin home opened old new status = (status ≡ Usage) × (new ≡ old)
  DoesKept served (serve serving) home opened old new status =
      ServesDoor (served home serving) opened old new status
  DoesKept served (generate requests) home opened old new status =
      (status ≡ Usage) × (new ≡ old)

  -- That, where the task is one that may keep its entity.
  abbrev pub DoesTask : (HomeData → Serving → KeptData X F → Status → Type 0) → Task
      → HomeData → KeptData X F → Outside → Outside → Status → Type 0
  DoesTask served task home opened old new status = MatchBool (may_keep task)
      (DoesKept served task home opened old new status) ((status ≡ Usage) × (new ≡ old))

  -- A task over a journal: what is kept was opened at the file, and this was done with it; or
  -- nobody was served, and the file is given back.
  abbrev pub RunsBy : (HomeData → F → KeptData X F → Type 0)
      → (HomeData → List ℕ → OpeningFault → Type 0)
      → (HomeData → Serving → KeptData X F → Status → Type 0) → Task
      → HomeData → F → Outside → Outside → Option F → Status → Type 0
  RunsBy opens refused served task home file old new back status =
      ((opened : KeptData X F) × opens home file opened
      × DoesTask served task home opened old new status × (back ≡ None))
      ⊎ ServesNone refused tells seen may_leave moment left_since home file old new back status

module _ {F : Type 0} (tells : Type 0) (seen : F → List ℕ) (may_leave : F → List ℕ → Type 0)
    (moment : F → ℕ) (left_since : F → ℕ → List ℕ → Type 0) where
  -- A task over a journal: of a CSE that answers later where the words say so, and else of an
  -- entity.
  abbrev pub RunsTask : (HomeData → Serving → KeptData EntityData F → Status → Type 0)
      → (HomeData → Serving → KeptData LaterData F → Status → Type 0) → Task
      → HomeData → F → Outside → Outside → Option F → Status → Type 0
  RunsTask served served_later task home file old new back status = MatchBool (answers_later task)
      (RunsBy KeptLaterStep KeepsLater tells seen may_leave moment left_since
      (OpensLaterAt tells seen may_leave) IsRefusedLater served_later task home file old new back
      status)
      (RunsBy KeptEntityStep KeepsEntity tells seen may_leave moment left_since
      (OpensAt tells seen may_leave) IsRefused served task home file old new back status)
