-- Requests that are put to an entity one after another, and what is then written.
use Rattle.std.specs.Prelude.{◌≡◌, ◌<◌, ◌-◌, ◌^◌, ℕ, List, length, map}
use Rattle.std.specs.List.{All}
use Rattle.cse_server.specs.Outside.{Puts, PutsPart, SinkTold}
use Rattle.m2m_io.specs.declared.status.Status.{Status}
use Rattle.m2m_io.specs.declared.status.Status.TheVariants.{Done, Usage, BadLine, ReadFault}
use Rattle.m2m_io.specs.declared.status.Status.TheVariants.{WriteFault, Memory, BadStream}
use Rattle.primitive_json.specs.declared.request.RequestParts.{RequestParts}
use Rattle.turn_desk.specs.Entries.{entry_of, outcomes_of}
use Rattle.resource_model.specs.Home.{default_home}
use Rattle.entity_model.specs.Entity.{EntityData}
use Rattle.entity_model.specs.Opening.{opening}
use Rattle.cse_machine.specs.History.{History, HistoryLeaves, IsDone}
use Rattle.cse_machine.specs.Step.{Step}
use Rattle.cse_machine.specs.declared.event.Event.{Event}
use Rattle.cse_machine.specs.declared.event.Event.TheVariants.{Ask}
use Rattle.cse_machine.specs.declared.event.Outcome.{Outcome}
use Rattle.made_input.specs.Counts.{line, tally_of, with_one}
use Rattle.made_input.specs.Requests.{first_inputs, made_inputs}
use Rattle.made_input.specs.declared.tally.Tally.{Tally}

-- the events of a history, each with its reading
abbrev pub inputs_of : History → List (ℕ × Event)
inputs_of history = map (λ e. (e.reading, e.event)) history

-- The machine took these events one after another, each at its reading. There was memory for each,
-- and this is how many were answered how.
pub record Makes (inputs : List (ℕ × Event)) (before after : EntityData) (tally : Tally) : Type 0
  where
    pub history : History
    pub leaves : HistoryLeaves before history after
    pub inputs_are : inputs_of history ≡ inputs
    pub whole : All IsDone (outcomes_of history)
    pub tally_is : tally ≡ tally_of history

-- The machine took these events, however they were answered.
pub record MakesAll (inputs : List (ℕ × Event)) (before after : EntityData) : Type 0 where
  pub tally : Tally
  pub makes : Makes inputs before after tally

-- The text is the line on so many requests that were counted, and on the entity that they left. It
-- opened with the default home at the reading 0, and the requests that come first were put to it
-- before them.
pub record IsMadeLine (requests : ℕ) (text : List ℕ) : Type 0 where
  pub between : EntityData
  pub after : EntityData
  pub tally : Tally
  pub first : MakesAll first_inputs (opening default_home 0) between
  pub then : Makes (made_inputs requests) between after tally
  pub text_is : text ≡ line requests tally (length after.nodes) (length after.items)

-- The line was written by one put.
pub record WritesLine (requests : ℕ) (old new : SinkTold) : Type 0 where
  pub text : List ℕ
  pub made : IsMadeLine requests text
  pub said : Puts text 1 old new

-- One put was to write the line, and wrote some of it, from the first byte on.
pub record WritesPartOfLine (requests : ℕ) (old new : SinkTold) : Type 0 where
  pub text : List ℕ
  pub made : IsMadeLine requests text
  pub said : PutsPart text old new

-- What is written where it ended so: the line, or a part of it where writing failed, or nothing
-- where memory ran out.
abbrev pub Generates : ℕ → Status → SinkTold → SinkTold → Type 0
Generates requests Done old new = WritesLine requests old new
Generates requests Usage old new = ⊥
Generates requests (BadLine n) old new = ⊥
Generates requests ReadFault old new = ⊥
Generates requests WriteFault old new = WritesPartOfLine requests old new
Generates requests Memory old new = new ≡ old
Generates requests BadStream old new = ⊥

-- ---- one request

-- The machine took a request at a reading, and there was memory for it; it was counted.
pub record TakesOne (reading : ℕ) (request : RequestParts) (before : EntityData) (tally : Tally)
    (after : EntityData) (more : Tally) : Type 0 where
  pub outcome : Outcome
  pub step : Step reading (Ask request) before outcome after
  pub done : IsDone outcome
  pub counted : more ≡ with_one tally (entry_of reading (Ask request) outcome)

-- each count can rise by one
pub record HasRoom (tally : Tally) : Type 0 where
  pub created : tally.created < 2 ^ 64 - 1
  pub retrieved : tally.retrieved < 2 ^ 64 - 1
  pub fanned : tally.fanned < 2 ^ 64 - 1
  pub refused : tally.refused < 2 ^ 64 - 1
