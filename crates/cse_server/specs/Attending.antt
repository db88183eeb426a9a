-- How a worker attends to a connection, and how the items of the outbox are sent beside it.
use Rattle.std.specs.Prelude.{ℕ, List, Option}
use Rattle.std.specs.declared.alloc.AllocError.{AllocError}
use Rattle.std.specs.declared.result.Result.{Result}
use Rattle.m2m_io.specs.Link.{Exchange}
use Rattle.cse_server.specs.Outside.{EndsByFault, LinkTold, SinkTold, link_told, sink_told}
use Rattle.desk_replies.specs.Asking.{Asked, HasAsked}
use Rattle.desk_replies.specs.Rule.{ReplyRule, plainly}
use Rattle.turn_desk.specs.Entries.{Marked}
use Rattle.turn_desk.specs.Seats.{known_to}
use Rattle.turn_desk.specs.Shared.{Grows}
use Rattle.turn_desk.specs.declared.shared.DeskSeat.{DeskSeat}
use Rattle.cse_machine.specs.declared.event.Event.{Event}
use Rattle.cse_machine.specs.declared.event.Outcome.{Outcome}
use Rattle.cse_server.specs.declared.bench.Bench.{Bench}
use Rattle.cse_server.specs.declared.connection.Ended.TheVariants.{ReadFault, WriteFault}
use Rattle.cse_server.specs.declared.binding.Attended.{Attended}
use Rattle.cse_server.specs.Connection.{Talks}
use Rattle.cse_server.specs.Sending.{SendsItems}

-- ---- connections

-- what a connection tells: the bytes that it has left, what was written to it, and how often it has
-- failed as it was read and as it was written
pub record ConnTold : Type 0 where
  pub left : Option (List ℕ)
  pub out : SinkTold
  pub read_faults : ℕ
  pub write_faults : ℕ

-- this connection does, by these
abbrev pub conn_tells : {X : Type 0} → (X → Option (List ℕ)) → (X → Option (List ℕ))
    → (X → Option ℕ) → (X → ℕ) → (X → ℕ) → X → ConnTold
conn_tells left written puts read_faults write_faults conn = record {
  left = left conn;
  out = sink_told (written conn) (puts conn);
  read_faults = read_faults conn;
  write_faults = write_faults conn;
}

-- What a link tells, by these two functions.
abbrev pub link_tells : {L : Type 0} → (L → Option (List Exchange)) → (L → ℕ) → L → LinkTold
link_tells exchanges faults link = link_told (exchanges link) (faults link)

-- A connection came and was attended to at a seat by a binding, with what lies at a bench: the seat
-- asked this, and connection and questions belong together as the binding says.
pub record AttendsBy {S X C L A : Type 0} (grown : S → List (Marked Event Outcome) → S → Type 0)
    (talks : X → Asked → A → Type 0) (clock : C → Option (List ℕ)) (link : L → LinkTold)
    (before : S) (came : X) (bench : Bench C L) (after : S) (attended : A) (left : Bench C L)
    : Type 0 where
  pub asked : Asked
  pub asks : HasAsked grown before after (clock bench.clock) (clock left.clock)
      (link bench.link) (link left.link) asked
  pub talked : talks came asked attended

-- A connection was attended to as HTTP, by this rule: it was answered so from its first frame on,
-- and ended so. A fault that ended it is one of the connection, whose count rose then, and no other
-- came.
pub record TalksHttp {X : Type 0} (rule : ReplyRule) (conn : X → ConnTold) (came : X)
    (asked : Asked) (attended : Attended X) : Type 0 where
  pub talks : Talks rule 1 asked (conn came).left (conn attended.conn).left
      (conn came).out (conn attended.conn).out attended.ended
  pub reads : EndsByFault ReadFault attended.ended
      (conn came).read_faults (conn attended.conn).read_faults
  pub writes : EndsByFault WriteFault attended.ended
      (conn came).write_faults (conn attended.conn).write_faults

-- A connection came and was attended to as HTTP, where nothing is asked behind a request.
abbrev pub Attends : {S X C L : Type 0} → (S → List (Marked Event Outcome) → S → Type 0)
    → (X → ConnTold) → (C → Option (List ℕ)) → (L → LinkTold)
    → S → X → Bench C L → S → Attended X → Bench C L → Type 0
Attends grown conn clock link = AttendsBy grown (TalksHttp plainly conn) clock link

-- a seat of a shared desk grew by these entries
abbrev pub SeatGrows : {X : Type 0} → DeskSeat X Event Outcome → List (Marked Event Outcome)
    → DeskSeat X Event Outcome → Type 0
SeatGrows before more after = Grows (known_to before) more (known_to after)

-- ---- items

-- By one call of `send_notes` the items that waited in an outbox were taken at a seat and sent,
-- with what lies at a bench, and this came of it.
pub record SendsFrom {S C L : Type 0} (grown : S → List (Marked Event Outcome) → S → Type 0)
    (clock : C → Option (List ℕ)) (link : L → LinkTold)
    (before : S) (bench : Bench C L) (after : S) (left : Bench C L) : Type 0 where
  pub result : Result ℕ AllocError
  pub sends : SendsItems grown before after (clock bench.clock) (clock left.clock)
      (link bench.link) (link left.link) result
