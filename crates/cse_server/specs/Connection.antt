-- What serving a connection does: to its bytes, to the seat at the desk, to the clock and to the
-- link.
use Rattle.std.specs.Prelude.{◌≡◌, ◌≢◌, ◌⊎◌, ℕ, ◌+◌, ◌<◌, Bool, true, false, List, []}
use Rattle.std.specs.Prelude.{◌++◌, length, Option, IfSome, IsTrue}
use Rattle.desk_replies.specs.Asking.{Asked, HasAsked}
use Rattle.desk_replies.specs.Rule.{IsAnswered, ReplyRule}
use Rattle.cse_server.specs.Outside.{Outside, SinkTold}
use Rattle.cse_server.specs.Together.{WritesAll, WritesAllButLast, WritesPart, WritesPartBeforeLast}
use Rattle.turn_desk.specs.Entries.{Marked}
use Rattle.http_frames.specs.declared.frame.Frame.{Frame}
use Rattle.http_frames.specs.declared.frame.Side.TheVariants.{Request}
use Rattle.http_frames.specs.Inbox.{most_held}
use Rattle.http_frames.specs.Stream.{BeginsWithFrames, HasNoFrame}
use Rattle.cse_machine.specs.declared.event.Event.{Event}
use Rattle.cse_machine.specs.declared.event.Outcome.{Outcome}
use Rattle.cse_server.specs.declared.connection.Ended.{Ended}
use Rattle.cse_server.specs.declared.connection.Ended.TheVariants.{Closed, NoFrame, ReadFault}
use Rattle.cse_server.specs.declared.connection.Ended.TheVariants.{WriteFault, Memory}
use Rattle.cse_server.specs.Talk.{SaySound, requests_in, some_closes, talk_texts}
use Rattle.cse_server.specs.Talk.{ends_at_close}

-- ---- how it ends

-- The rest is refused only where no frame closed the connection, and something is left that begins
-- with none; the first of the frames stands at this place.
abbrev pub RefusesRightly : ℕ → Bool → List Frame → List ℕ → Type 0
RefusesRightly place refused heard rest =
    refused ≡ true → (some_closes heard place ≡ false) × (rest ≢ []) × HasNoFrame Request rest

-- Of the rest some bytes were read, before those that are left now: fewer than the longest request
-- and 4,096 more.
pub record ReadsLittle (rest left : List ℕ) : Type 0 where
  pub held : List ℕ
  pub rest_is : rest ≡ held ++ left
  pub few : length held < most_held Request

-- Of the rest some bytes were read, fewer than the longest request and 4,096 more, and no frame
-- stands at the front of what was read.
pub record HoldsBack (rest left : List ℕ) : Type 0 where
  pub reads : ReadsLittle rest left
  pub none : HasNoFrame Request reads.held

-- When a connection ends so, the frames that were heard, what is left behind them and what the
-- source has left now being these: it is closed where a frame closed it, or nothing is left; at a
-- fault of reading all frames that were read are among those that were heard; and little was read
-- behind them.
abbrev pub EndsRightly : ℕ → Ended → Bool → List Frame → List ℕ → Option (List ℕ) → Type 0
EndsRightly place Closed refused heard rest now =
    (refused ≡ false) × (some_closes heard place ≡ false → rest ≡ [])
    × IfSome now (ReadsLittle rest)
EndsRightly place NoFrame refused heard rest now = (refused ≡ true) × IfSome now (ReadsLittle rest)
EndsRightly place ReadFault refused heard rest now =
    (refused ≡ false) × (some_closes heard place ≡ false) × IfSome now (HoldsBack rest)
EndsRightly place WriteFault refused heard rest now = IfSome now (ReadsLittle rest)
EndsRightly place Memory refused heard rest now = IfSome now (ReadsLittle rest)

-- a text says itself
abbrev pub itself : List ℕ → List ℕ
itself text = text

-- What is written where it ends so, these being the texts that are said: all of them, in order,
-- some by each put. Where writing failed, a part; where memory ran out, they are all written, or
-- all but the last one, which isn't begun.
abbrev pub Says : Ended → List (List ℕ) → SinkTold → SinkTold → Type 0
Says Closed texts old new = WritesAll itself texts old new
Says NoFrame texts old new = WritesAll itself texts old new
Says ReadFault texts old new = WritesAll itself texts old new
Says WriteFault texts old new = WritesPart itself texts old new
Says Memory texts old new =
    WritesAll itself texts old new ⊎ WritesAllButLast itself texts old new

-- What is written where memory ran out in what is asked for the last reply, which isn't begun: all
-- those before it; or a part of them, where writing failed then.
abbrev pub SaysBeforeLast : Ended → List (List ℕ) → SinkTold → SinkTold → Type 0
SaysBeforeLast Closed texts old new = ⊥
SaysBeforeLast NoFrame texts old new = ⊥
SaysBeforeLast ReadFault texts old new = ⊥
SaysBeforeLast WriteFault texts old new = WritesPartBeforeLast itself texts old new
SaysBeforeLast Memory texts old new = WritesAllButLast itself texts old new

-- The frames from this place on were answered by this rule: the requests to which they bind, in
-- order.
abbrev pub AnswersFrames : ReplyRule → List Frame → Asked → Type 0
AnswersFrames rule frames asked = IsAnswered rule (requests_in frames) asked

-- all that is said where a connection ends so was written
abbrev pub says_all : Ended → Bool
says_all Closed = true
says_all NoFrame = true
says_all ReadFault = true
says_all WriteFault = false
says_all Memory = false

-- A connection was answered by this rule, from the frame at this place on: what it had left to
-- read is first `old` and now `new`, and what was written to it first `said` and now `told`. Of the
-- bytes that it had left, `heard` are the requests that were read.
pub record Talks (rule : ReplyRule) (place : ℕ) (asked : Asked) (old new : Option (List ℕ))
    (said told : SinkTold) (ended : Ended) : Type 0 where
  pub heard : List Frame
  pub refused : Bool
  -- what was asked is what the rule has asked for them
  pub answers : AnswersFrames rule heard asked
  -- they are the requests of the stream up to the first that closes, and it ended as they and the
  -- rest say
  pub up_to : IsTrue (ends_at_close heard place)
  pub stream : IfSome old (λ bytes. (rest : List ℕ) × BeginsWithFrames Request bytes heard rest
      × RefusesRightly place refused heard rest
      × EndsRightly place ended refused heard rest new)
  -- their talk by these replies is written
  pub says : Says ended (talk_texts place heard refused answers.replies) said told
  -- what was written whole is sound
  pub sound : says_all ended ≡ true → SaySound heard answers.replies
  -- where memory ran out in what is asked for the last one, the reply to it isn't begun
  pub cut : answers.is_whole ≡ false
      → SaysBeforeLast ended (talk_texts place heard refused answers.replies) said told

-- A connection was served at a seat by this rule, from the frame at this place on, what the objects
-- outside told being first `old` and now `new`: the seat asked this, and the connection was
-- answered by it.
pub record ServesFrom {S : Type 0} (place : ℕ) (rule : ReplyRule)
    (grown : S → List (Marked Event Outcome) → S → Type 0) (before after : S)
    (old new : Outside) (ended : Ended) : Type 0 where
  pub asked : Asked
  pub asks : HasAsked grown before after old.readings new.readings old.link new.link asked
  pub talks : Talks rule place asked old.left new.left old.out new.out ended

-- A connection was served at a seat, from its first frame on.
abbrev pub Serves : {S : Type 0} → ReplyRule → (S → List (Marked Event Outcome) → S → Type 0) → S
    → S → Outside → Outside → Ended → Type 0
Serves rule grown before after old new ended = ServesFrom 1 rule grown before after old new ended
