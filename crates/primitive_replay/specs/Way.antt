-- Lines on their way: what its calls say of the lines so far.
use Rattle.std.specs.Prelude.{◌≡◌, ◌⊎◌, ℕ, ◌+◌, List, [], ◌∷◌, ◌++◌, length, Option}
use Rattle.std.specs.Prelude.{Some, None, IfSome}
use Rattle.m2m_io.specs.Link.{Carrying}
use Rattle.cse_server.specs.Outside.{LinkTold, Outside, Puts, PutsPart, SinkTold}
use Rattle.m2m_io.specs.declared.status.Status.{Status}
use Rattle.m2m_io.specs.declared.status.Status.TheVariants.{Done, Usage, BadLine, ReadFault}
use Rattle.m2m_io.specs.declared.status.Status.TheVariants.{WriteFault, Memory, BadStream}
use Rattle.primitive_json.specs.declared.reply.ReplyParts.{ReplyParts}
use Rattle.primitive_json.specs.declared.request.RequestParts.{RequestParts}
use Rattle.notify_outbox.specs.declared.item.Item.{Item}
use Rattle.entity_model.specs.Entity.{EntityData}
use Rattle.cse_machine.specs.Step.{Step}
use Rattle.cse_machine.specs.declared.event.Event.TheVariants.{Ask as AskEvent}
use Rattle.cse_machine.specs.declared.event.Outcome.{Outcome}
use Rattle.desk_replies.specs.Replies.{CarriesEach, GivesReply}
use Rattle.primitive_replay.specs.Script.{AsksLines, StopsRightly, WritesReplies, lines_of_items}
use Rattle.primitive_replay.specs.Script.{next_reading, reading_behind, reply_line}
use Rattle.primitive_replay.specs.Stream.{BeginsWithLines, LeadsTo}
use Rattle.cse_server.specs.Together.{KeepsBack, KeepsBackAllButLast, WritesPart}
use Rattle.primitive_replay.specs.declared.fault.LineFault.{LineFault}
use Rattle.primitive_replay.specs.declared.fault.LineFault.TheVariants.{Bad, ReadFault as Unread}
use Rattle.primitive_replay.specs.declared.fault.LineFault.TheVariants.{OutOfMemory as Starved}
use Rattle.primitive_replay.specs.declared.line.Line.{Line}

-- how it ends where no line was taken at this place
abbrev pub fault_status : LineFault → ℕ → Status
fault_status Bad place = BadLine place
fault_status Unread place = ReadFault
fault_status Starved place = Memory

-- The machine took a request at a reading, and its outcome gave this reply, for which this was
-- carried over a link, which told that before and tells this now.
pub record RepliesTo (reading : ℕ) (before : EntityData) (request : RequestParts)
    (reply : ReplyParts) (after : EntityData) (told more : LinkTold) : Type 0 where
  pub outcome : Outcome
  pub carried : List Carrying
  pub step : Step reading (AskEvent request) before outcome after
  pub gives : GivesReply request outcome reply carried
  pub link : CarriesEach carried told more

-- what was written of a text: all of it by one put, and else a part of it, or nothing where memory
-- ran out
abbrev pub WritesText : Option Status → List ℕ → SinkTold → SinkTold → Type 0
WritesText None text old new = Puts text 1 old new
WritesText (Some Done) text old new = ⊥
WritesText (Some Usage) text old new = ⊥
WritesText (Some (BadLine n)) text old new = ⊥
WritesText (Some ReadFault) text old new = ⊥
WritesText (Some WriteFault) text old new = PutsPart text old new
WritesText (Some Memory) text old new = new ≡ old
WritesText (Some BadStream) text old new = ⊥

-- How these replies stand where the lines go on, or end so and what waits isn't put yet: nothing
-- waits where more was to be read.
abbrev pub Stands : Option Status → List ReplyParts → List ℕ → SinkTold → SinkTold → Type 0
Stands None replies waiting old new = KeepsBack reply_line replies waiting old new
Stands (Some Done) replies waiting old new =
    (waiting ≡ []) × KeepsBack reply_line replies waiting old new
Stands (Some Usage) replies waiting old new = ⊥
Stands (Some (BadLine n)) replies waiting old new = KeepsBack reply_line replies waiting old new
Stands (Some ReadFault) replies waiting old new =
    (waiting ≡ []) × KeepsBack reply_line replies waiting old new
Stands (Some WriteFault) replies waiting old new = WritesPart reply_line replies old new
Stands (Some Memory) replies waiting old new =
    KeepsBack reply_line replies waiting old new
    ⊎ KeepsBackAllButLast reply_line replies waiting old new
Stands (Some BadStream) replies waiting old new = ⊥

-- However replies stood before, with these behind them they stand so.
abbrev pub StandsOn : Option Status → List ReplyParts → List ℕ → List ℕ → SinkTold → SinkTold
    → Type 0
StandsOn status replies before now old new =
    (earlier : List ReplyParts) (start : SinkTold) → KeepsBack reply_line earlier before start old
    → Stands status (earlier ++ replies) now start new

-- how these replies come to stand behind a line that goes on or ends it, which may come by a fault
-- of writing or by want of memory alone
abbrev pub SaysOn : Option Status → List ReplyParts → List ℕ → List ℕ → SinkTold → SinkTold
    → Type 0
SaysOn None replies before now old new = StandsOn None replies before now old new
SaysOn (Some Done) replies before now old new = ⊥
SaysOn (Some Usage) replies before now old new = ⊥
SaysOn (Some (BadLine n)) replies before now old new = ⊥
SaysOn (Some ReadFault) replies before now old new = ⊥
SaysOn (Some WriteFault) replies before now old new =
    StandsOn (Some WriteFault) replies before now old new
SaysOn (Some Memory) replies before now old new =
    StandsOn (Some Memory) replies before now old new
SaysOn (Some BadStream) replies before now old new = ⊥

-- A line was taken: what it asks was answered, and the reading is that behind it.
pub record TakesLine (reading now : ℕ) (before after : EntityData)
    (told more : LinkTold) (waited waiting : List ℕ) (old new : SinkTold)
    (line : Line) (status : Option Status) : Type 0 where
  pub asks : AsksLines reading before after told more (line ∷ [])
  pub reads : now ≡ next_reading reading line
  pub said : SaysOn status asks.replies waited waiting old new

-- The replay goes on: the lines from this place up to the next were taken and answered.
pub record ReplaysUpTo (place next reading now : ℕ) (before after : EntityData)
    (waited waiting : List ℕ) (old new : Outside) : Type 0 where
  pub heard : List Line
  pub asks : AsksLines reading before after old.link new.link heard
  pub places : place + length heard ≡ next
  pub reads : now ≡ reading_behind reading heard
  pub stream : LeadsTo place old.left heard new.left
  pub said : StandsOn None asks.replies waited waiting old.out new.out

-- what a stream was where lines from this place on were heard and ended so, and this is left now
abbrev pub EndsOn : ℕ → Status → List Line → Option (List ℕ) → List ℕ → Type 0
EndsOn place ended heard now bytes =
    (rest : List ℕ) × BeginsWithLines place bytes heard rest
    × StopsRightly (place + length heard) ended rest now

-- Lines were taken and answered from the one at this place on, and ended so, and what waits isn't
-- put yet.
pub record StopsFrom (place reading : ℕ) (before after : EntityData) (waited waiting : List ℕ)
    (old new : Outside) (ended : Status) : Type 0 where
  pub heard : List Line
  pub asks : AsksLines reading before after old.link new.link heard
  pub stream : IfSome old.left (EndsOn place ended heard new.left)
  pub said : StandsOn (Some ended) asks.replies waited waiting old.out new.out

-- Lines were replayed from the one at this place on, before which this was the reading and this the
-- entity, and ended so. Of the bytes that the source had left, `heard` are the lines that were
-- taken.
pub record ReplaysFrom (place reading : ℕ) (before after : EntityData)
    (old new : Outside) (ended : Status) : Type 0 where
  pub heard : List Line
  pub asks : AsksLines reading before after old.link new.link heard
  pub stream : IfSome old.left (EndsOn place ended heard new.left)
  pub said : WritesReplies ended asks.replies old.out new.out

-- ---- items

-- The lines of a front of these items were written, each by one put, and these are left.
pub record PutsFront (items left : List Item) (old new : SinkTold) : Type 0 where
  pub whole : List Item
  pub items_are : items ≡ whole ++ left
  pub said : Puts (lines_of_items whole) (length whole) old new
