-- What is answered to lines, one after another.
use Rattle.std.specs.Prelude.{◌≡◌, ◌⊎◌, ℕ, ◌+◌, List, [], ◌∷◌, ◌++◌, length, map, Option}
use Rattle.std.specs.Prelude.{Some, None, IfSome, codes}
use Rattle.std.specs.List.{filter_map, flat_map}
use Rattle.std.specs.Io.KnownBytes.{IsAtEnd}
use Rattle.m2m_io.specs.Link.{Carrying}
use Rattle.cse_server.specs.Outside.{LinkTold, Outside, PutsPart, SinkTold}
use Rattle.m2m_io.specs.declared.status.Status.{Status}
use Rattle.m2m_io.specs.declared.status.Status.TheVariants.{Done, Usage, BadLine, ReadFault}
use Rattle.m2m_io.specs.declared.status.Status.TheVariants.{WriteFault, Memory, BadStream}
use Rattle.m2m_names.specs.Ids.{id_text}
use Rattle.m2m_names.specs.declared.types.Ty.TheVariants.{PollingChannel}
use Rattle.m2m_value.specs.Spelling.{text_of}
use Rattle.primitive_json.specs.Writing.{written_reply, written_request}
use Rattle.primitive_json.specs.declared.note.Dest.{Dest}
use Rattle.primitive_json.specs.declared.note.Dest.TheVariants.{Direct, Peer, Channel, Nowhere}
use Rattle.primitive_json.specs.declared.note.NoteParts.{NoteParts}
use Rattle.primitive_json.specs.declared.reply.ReplyParts.{ReplyParts}
use Rattle.primitive_json.specs.declared.request.RequestParts.{RequestParts}
use Rattle.turn_desk.specs.Entries.{readings_of, events_of, outcomes_of}
use Rattle.notify_outbox.specs.declared.item.Item.{Item}
use Rattle.entity_model.specs.Entity.{EntityData}
use Rattle.cse_machine.specs.History.{History, HistoryLeaves}
use Rattle.cse_machine.specs.declared.event.Event.TheVariants.{Ask as AskEvent}
use Rattle.desk_replies.specs.Replies.{CarriesEach, GivesReplies}
use Rattle.primitive_replay.specs.Lines.{line_read}
use Rattle.primitive_replay.specs.Stream.{BeginsWithLines, BeginsBadly, HoldsLittle, HoldsNoLine}
use Rattle.cse_server.specs.Together.{PutsWithin, WritesAll, WritesAllButLast, WritesPart}
use Rattle.primitive_replay.specs.declared.line.Line.{Line}
use Rattle.primitive_replay.specs.declared.line.Line.TheVariants.{Empty, Reading, Ask}

-- ---- the requests

-- the request of a line
abbrev pub request_on : Line → Option RequestParts
request_on Empty = None
request_on (Reading moment) = None
request_on (Ask request) = Some request

-- the requests of lines, in order
abbrev pub requests_on : List Line → List RequestParts
requests_on heard = filter_map request_on heard

-- the reading behind a line
abbrev pub next_reading : ℕ → Line → ℕ
next_reading reading Empty = reading
next_reading reading (Reading moment) = moment
next_reading reading (Ask request) = reading

-- the reading behind lines: that of the last line that has one
abbrev pub reading_behind : ℕ → List Line → ℕ
reading_behind reading [] = reading
reading_behind reading (line ∷ heard) = reading_behind (next_reading reading line) heard

-- the readings at which the requests of lines are asked: each at the last one before it
abbrev pub readings_on : ℕ → List Line → List ℕ
readings_on reading [] = []
readings_on reading (Empty ∷ heard) = readings_on reading heard
readings_on reading (Reading moment ∷ heard) = readings_on moment heard
readings_on reading (Ask request ∷ heard) = reading ∷ readings_on reading heard

-- Lines were put to an entity: the machine took the request of each that has one, in order, at the
-- reading that the lines say, `reading` standing before them; and the outcomes gave the replies,
-- for which this was carried over a link, which told that before and tells this now.
pub record AsksLines (reading : ℕ) (before after : EntityData)
    (told more : LinkTold) (heard : List Line) : Type 0 where
  pub history : History
  pub replies : List ReplyParts
  pub carried : List Carrying
  pub leaves : HistoryLeaves before history after
  pub readings_are : readings_of history ≡ readings_on reading heard
  pub events_are : events_of history ≡ map AskEvent (requests_on heard)
  pub gives : GivesReplies (requests_on heard) (outcomes_of history) replies carried
  pub link : CarriesEach carried told more

-- ---- what is written

-- a text as a line: LF ends it
abbrev pub as_line : List ℕ → List ℕ
as_line text = text ++ 10 ∷ []

-- a reply as a line: its compact JSON
abbrev pub reply_line : ReplyParts → List ℕ
reply_line reply = as_line (text_of (written_reply reply))

-- replies, a line for each of them
abbrev pub lines_of_replies : List ReplyParts → List ℕ
lines_of_replies replies = flat_map reply_line replies

-- where an item of the outbox is to go, in words
abbrev pub dest_words : Dest → List ℕ
dest_words (Direct url) = codes "direct " ++ url
dest_words (Peer url) = codes "peer " ++ url
dest_words (Channel number) = codes "channel " ++ id_text PollingChannel number
dest_words Nowhere = codes "nowhere"

-- the note of an item as a line: where it is to go, a blank, and its request in compact JSON
abbrev pub note_line : NoteParts → List ℕ
note_line note = as_line (dest_words note.dest ++ 32 ∷ text_of (written_request note.request))

-- items, a line for each of them
abbrev pub lines_of_items : List Item → List ℕ
lines_of_items items = flat_map (λ (item : Item). note_line item.note) items

-- The script of lines, these being the replies to their requests, and these the items that are left
-- in the outbox then: a line for each reply, and behind them one for each item.
abbrev pub script : List ReplyParts → List Item → List ℕ
script replies items = lines_of_replies replies ++ lines_of_items items

-- What is written to lines that ended so, these being the replies to their requests: all their
-- lines, in order, some by each put. Where memory ran out, all lines are written, or all but the
-- last one.
abbrev pub WritesReplies : Status → List ReplyParts → SinkTold → SinkTold → Type 0
WritesReplies Done replies old new = WritesAll reply_line replies old new
WritesReplies Usage replies old new = ⊥
WritesReplies (BadLine n) replies old new = WritesAll reply_line replies old new
WritesReplies ReadFault replies old new = WritesAll reply_line replies old new
WritesReplies WriteFault replies old new = WritesPart reply_line replies old new
WritesReplies Memory replies old new =
    WritesAll reply_line replies old new ⊎ WritesAllButLast reply_line replies old new
WritesReplies BadStream replies old new = ⊥

-- The lines of all replies and of the items before this one were written, each item's by one put.
pub record WritesBeforeItem (replies : List ReplyParts) (items : List Item) (old new : SinkTold)
    : Type 0 where
  pub whole : List Item
  pub next : Item
  pub later : List Item
  pub items_are : items ≡ whole ++ next ∷ later
  pub said : PutsWithin (script replies whole) (length replies + length whole) old new

-- The lines of all replies and of the items before one were written, and of that one's line a part,
-- by one put more.
pub record WritesPartOfItem (replies : List ReplyParts) (items : List Item) (old new : SinkTold)
    : Type 0 where
  pub between : SinkTold
  pub before : WritesBeforeItem replies items old between
  pub part : PutsPart (note_line before.next.note) between new

-- What is written where lines were read to their end and it then ended so, these being the replies
-- and these the items: all of the script; or a part of it where writing an item failed, or where
-- memory ran out for one, whose line isn't begun.
abbrev pub WritesScript : Status → List ReplyParts → List Item → SinkTold → SinkTold → Type 0
WritesScript Done replies items old new =
    PutsWithin (script replies items) (length replies + length items) old new
WritesScript Usage replies items old new = ⊥
WritesScript (BadLine n) replies items old new = ⊥
WritesScript ReadFault replies items old new = ⊥
WritesScript WriteFault replies items old new = WritesPartOfItem replies items old new
WritesScript Memory replies items old new = WritesBeforeItem replies items old new
WritesScript BadStream replies items old new = ⊥

-- What is written where the lines ended as the first status says, and all then as the second says:
-- the items are written only where the lines were read to their end.
abbrev pub Writes : Status → Status → List ReplyParts → List Item → SinkTold → SinkTold → Type 0
Writes Done status replies items old new = WritesScript status replies items old new
Writes Usage status replies items old new = ⊥
Writes (BadLine n) status replies items old new =
    (status ≡ BadLine n) × WritesReplies (BadLine n) replies old new
Writes ReadFault status replies items old new =
    (status ≡ ReadFault) × WritesReplies ReadFault replies old new
Writes WriteFault status replies items old new =
    (status ≡ WriteFault) × WritesReplies WriteFault replies old new
Writes Memory status replies items old new =
    (status ≡ Memory) × WritesReplies Memory replies old new
Writes BadStream status replies items old new = ⊥

-- ---- how the lines end

-- When the lines end so, what is left behind the lines that were heard and what the source has left
-- now being these, and the next line having this place: it is done where nothing is left; at a bad
-- line where the next one is; at a fault of reading each line that was read to its end was heard;
-- and little was read behind the lines that were heard.
abbrev pub StopsRightly : ℕ → Status → List ℕ → Option (List ℕ) → Type 0
StopsRightly place Done rest now = (rest ≡ []) × IsAtEnd now
StopsRightly place Usage rest now = ⊥
StopsRightly place (BadLine n) rest now =
    (n ≡ place) × BeginsBadly line_read place rest × IfSome now (HoldsLittle rest)
StopsRightly place ReadFault rest now = IfSome now (HoldsNoLine rest)
StopsRightly place WriteFault rest now = IfSome now (HoldsLittle rest)
StopsRightly place Memory rest now = IfSome now (HoldsLittle rest)
StopsRightly place BadStream rest now = ⊥

-- ---- all together

-- Lines were replayed, from the first one on, what the objects outside told being first `old` and
-- now `new`. The clock stood at 0 before them, and this was the entity. Of the bytes that the
-- source had left, `heard` are the lines that were taken, and `ended` is how the lines ended.
pub record Replays (opening : EntityData) (old new : Outside) (status : Status) : Type 0 where
  pub after : EntityData
  pub heard : List Line
  pub ended : Status
  pub asks : AsksLines 0 opening after old.link new.link heard
  pub stream : IfSome old.left (λ bytes. (rest : List ℕ) × BeginsWithLines 1 bytes heard rest
      × StopsRightly (1 + length heard) ended rest new.left)
  pub said : Writes ended status asks.replies after.items old.out new.out
