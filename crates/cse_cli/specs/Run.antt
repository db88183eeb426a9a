-- What the program does with its streams: the headline.
use Rattle.std.specs.Prelude.{◌≡◌, ◌⊎◌, ℕ, Bool, true, false, List, [], ◌∷◌, ◌++◌, Option}
use Rattle.std.specs.declared.alloc.AllocError.{AllocError}
use Rattle.std.specs.declared.result.Result.{Result}
use Rattle.std.specs.declared.result.Result.TheVariants.{Ok, Err}
use Rattle.cse_server.specs.Outside.{Outside}
use Rattle.m2m_io.specs.Told.{Tells}
use Rattle.m2m_io.specs.declared.status.Status.{Status}
use Rattle.m2m_io.specs.declared.status.Status.TheVariants.{Done, ReadFault, WriteFault, Memory}
use Rattle.m2m_io.specs.declared.status.Status.TheVariants.{BadStream}
use Rattle.turn_desk.specs.Growth.{IsOwnRun}
use Rattle.resource_model.specs.Home.{HomeData}
use Rattle.entity_model.specs.Entity.{EntityData}
use Rattle.entity_model.specs.Opening.{opening}
use Rattle.cse_machine.specs.Step.{Step}
use Rattle.cse_machine.specs.declared.event.Event.{Event}
use Rattle.cse_machine.specs.declared.event.Outcome.{Outcome}
use Rattle.later_replies.specs.Entries.{opened as begun}
use Rattle.later_replies.specs.Step.{LaterStep}
use Rattle.remote_members.specs.Wide.{wide}
use Rattle.cse_server.specs.Connection.{Serves}
use Rattle.cse_server.specs.Sending.{SendsItems}
use Rattle.primitive_replay.specs.Script.{Replays}
use Rattle.twin_replay.specs.Twins.{Twins, told}
use Rattle.made_input.specs.Making.{Generates}
use Rattle.cse_server.specs.declared.connection.Ended.{Ended}
use Rattle.cse_server.specs.declared.connection.Ended.TheVariants.{Closed, NoFrame}
use Rattle.cse_server.specs.declared.connection.Ended.TheVariants.{ReadFault as EndedReading}
use Rattle.cse_server.specs.declared.connection.Ended.TheVariants.{WriteFault as EndedWriting}
use Rattle.cse_server.specs.declared.connection.Ended.TheVariants.{Memory as EndedStarved}

-- the status where items were then sent, and what came of that: want of memory, or the status of
-- the connection
abbrev pub status_behind : {E : Type 0} → Status → Result ℕ E → Status
status_behind status (Ok sent) = status
status_behind status (Err starved) = Memory

-- The items that a connection left in the outbox of an entity were sent, of which the machine was
-- asked each, one after another, by nobody else. Nothing was read or written.
pub record SendsBehind {X : Type 0} (step : ℕ → Event → X → Outcome → X → Type 0)
    (before after : X) (old new : Outside) (whole status : Status) : Type 0 where
  pub result : Result ℕ AllocError
  pub sends : SendsItems (IsOwnRun step) before after old.readings new.readings old.link new.link
      result
  pub left : new.left ≡ old.left
  pub out : new.out ≡ old.out
  pub status_is : status ≡ status_behind whole result

-- nothing was done, and the status is this
abbrev pub EndsAt : {X : Type 0} → Status → X → X → Outside → Outside → Status → Type 0
EndsAt whole before after old new status = (status ≡ whole) × (after ≡ before) × (new ≡ old)

-- What is done behind a connection that ended so: where it was closed, or what was left of it was
-- no message, the items are sent; and else nothing.
abbrev pub EndsBehind : {X : Type 0} → (ℕ → Event → X → Outcome → X → Type 0) → Ended → X → X
    → Outside → Outside → Status → Type 0
EndsBehind step Closed before after old new status =
    SendsBehind step before after old new Done status
EndsBehind step NoFrame before after old new status =
    SendsBehind step before after old new BadStream status
EndsBehind step EndedReading before after old new status =
    EndsAt ReadFault before after old new status
EndsBehind step EndedWriting before after old new status =
    EndsAt WriteFault before after old new status
EndsBehind step EndedStarved before after old new status =
    EndsAt Memory before after old new status

-- Input and output were served as one connection of a CSE with this home and these steps, which
-- opened as this object, and then what it left in the outbox was sent, what the objects outside told
-- being first `old` and now `new`. The requests, and behind each those to members at other CSEs, were
-- taken by it, one after another, and by nobody else.
pub record ServesOpened {X : Type 0} (step : ℕ → Event → X → Outcome → X → Type 0) (object : X)
    (home : HomeData) (old new : Outside) (status : Status) : Type 0 where
  pub between : X
  pub after : X
  pub served : Outside
  pub ended : Ended
  pub serves : Serves (wide home) (IsOwnRun step) object between old served ended
  pub behind : EndsBehind step ended between after served new status

-- They were so served by an entity with this home that opened as this one. Its steps are those of
-- the machine, or, where requests are to be answered later, those of a CSE that does so.
abbrev pub ServesEntityAt : Bool → HomeData → EntityData → Outside → Outside → Status → Type 0
ServesEntityAt false home opened old new status =
    ServesOpened Step opened home old new status
ServesEntityAt true home opened old new status =
    ServesOpened LaterStep (begun opened) home old new status

-- Memory ran out before the entity opened: nothing was read, written or exchanged.
pub record RanOut (old new : Outside) (status : Status) : Type 0 where
  pub status_is : status ≡ Memory
  pub same : new ≡ old

-- An entity opens at the first reading that the clock gives, serves input and output as one
-- connection, and sends the items that this leaves in the outbox.
pub record ServesStreams (later : Bool) (home : HomeData) (old new : Outside) (status : Status)
    : Type 0 where
  pub reading : ℕ
  pub given : Option (List ℕ)
  pub clock : Tells (λ readings. readings ++ reading ∷ []) old.readings given
  pub run : ServesEntityAt later home (opening home reading) (record old { readings = given }) new
      status ⊎ RanOut (record old { readings = given }) new status

-- The command `http` at this home: input and output are served as one connection, and the items
-- that it leaves are sent, unless memory runs out for the home.
abbrev pub RunsHttp : Bool → HomeData → Outside → Outside → Status → Type 0
RunsHttp later home old new status =
    ServesStreams later home old new status ⊎ RanOut old new status

-- The command `replay` at this home: the input is lines, which were replayed against an entity that
-- opened at the reading 0. The clock gave nothing.
pub record RunsReplay (home : HomeData) (old new : Outside) (status : Status) : Type 0 where
  pub replays : Replays (opening home 0) old new status
  pub still : new.readings ≡ old.readings

-- The command `twin` at this home: the input is lines, by which two entities that opened at the
-- reading 0 were prepared, compared and asked. The clock gave nothing, and nothing was exchanged.
pub record RunsTwin (home : HomeData) (old new : Outside) (status : Status) : Type 0 where
  pub twins : Twins home (told old.left old.out) (told new.left new.out) status
  pub readings : new.readings ≡ old.readings
  pub link : new.link ≡ old.link

-- The command `gen`: so many made requests were put to an entity of their own, and what the output
-- got is the line on them. Nothing was read or exchanged, and the clock gave nothing.
pub record RunsGen (requests : ℕ) (old new : Outside) (status : Status) : Type 0 where
  pub generates : Generates requests status old.out new.out
  pub left : new.left ≡ old.left
  pub readings : new.readings ≡ old.readings
  pub link : new.link ≡ old.link
