-- What the command `serve` does with its door, and what its entity becomes.
use Rattle.std.specs.Prelude.{◌≡◌, ◌⊎◌, ◌+◌, ◌++◌, ◌∷◌, [], Bool, true, false, Option, Some, List}
use Rattle.std.specs.Prelude.{ℕ, max, take}
use Rattle.m2m_io.specs.Counts.{Rose}
use Rattle.m2m_io.specs.Told.{Tells, TellsStill}
use Rattle.m2m_io.specs.declared.status.Status.{Status}
use Rattle.m2m_io.specs.declared.status.Status.TheVariants.{Done, ReadFault, Memory}
use Rattle.turn_desk.specs.declared.shared.DeskSeat.{DeskSeat}
use Rattle.turn_desk.specs.Entries.{Marked}
use Rattle.turn_desk.specs.Seats.{known_to}
use Rattle.turn_desk.specs.Shared.{Leaves, OwnsAll, newcomer}
use Rattle.resource_model.specs.Home.{HomeData}
use Rattle.command_words.specs.Command.{Bind, Serving, over_http, over_ws}
use Rattle.entity_model.specs.Entity.{EntityData}
use Rattle.entity_model.specs.Opening.{opening}
use Rattle.cse_machine.specs.Step.{Step}
use Rattle.cse_machine.specs.declared.event.Event.{Event}
use Rattle.cse_machine.specs.declared.event.Outcome.{Outcome}
use Rattle.cse_server.specs.Attending.{AttendsBy, ConnTold, SeatGrows, SendsFrom, TalksHttp}
use Rattle.cse_server.specs.Outside.{LinkTold}
use Rattle.cse_server.specs.declared.bench.Bench.{Bench}
use Rattle.cse_server.specs.declared.binding.Attended.{Attended}
use Rattle.desk_replies.specs.Rule.{plainly}
use Rattle.later_replies.specs.Entries.{opened as begun}
use Rattle.later_replies.specs.Step.{LaterStep}
use Rattle.remote_members.specs.Wide.{wide}
use Rattle.ws_binding.specs.Binding.{TalksWs}
use Rattle.workers.specs.declared.gate.Ending.TheVariants.{Fault}
use Rattle.workers.specs.Gate.{DoorTold, TakesConnections, ServesDoor}
use Rattle.workers.specs.Serving.{GainsByServing}

-- ---- the door

-- The door was opened at this address. No connection was taken from it, and it didn't fail.
pub record Opens (address : List ℕ) (start now : DoorTold) : Type 0 where
  pub opened : Tells (λ _. Some address) start.opened now.opened
  pub given : TellsStill start.given now.given
  pub ended : TellsStill start.ended now.ended
  pub steady : now.faults ≡ start.faults

-- The door failed to open: it is as open as it was, and no connection was taken from it.
pub record FailsToOpen (start now : DoorTold) : Type 0 where
  pub opened : TellsStill start.opened now.opened
  pub given : TellsStill start.given now.given
  pub ended : TellsStill start.ended now.ended
  pub fault : Rose start.faults now.faults

-- An open door was served, and this is the status: all is well where it was served to its end, as
-- it gave None, or as many connections as are to be accepted; a read fault is one of the door,
-- which gave no more connections than that before; in both cases its connections were `served`. And
-- where memory ran out, nothing was taken, and all is as where nobody is served: `idle`.
abbrev pub ServesOpen : Type 0 → Type 0 → Option ℕ → DoorTold → DoorTold → Status → Type 0
ServesOpen served idle accept start now status =
    ((status ≡ Done) × ServesDoor accept start now × served)
    ⊎ ((status ≡ ReadFault) × TakesConnections accept (Some Fault) start now × served)
    ⊎ ((status ≡ Memory) × (now ≡ start) × idle)

-- The door was opened where the words say, and then served.
pub record OpensAndServes (served idle : Type 0) (serving : Serving) (start now : DoorTold)
    (status : Status) : Type 0 where
  pub between : DoorTold
  pub opens : Opens serving.listen start between
  pub serves : ServesOpen served idle serving.accept between now status

-- The command `serve` did this with its door: it was opened and served, unless memory ran out
-- before, which left it as it was, or it failed to open, which is a read fault. In these two cases
-- nobody was served: `idle`.
abbrev pub RunsServe : Type 0 → Type 0 → Serving → DoorTold → DoorTold → Status → Type 0
RunsServe served idle serving start now status =
    ((status ≡ Memory) × (now ≡ start) × idle)
    ⊎ ((status ≡ ReadFault) × FailsToOpen start now × idle)
    ⊎ OpensAndServes served idle serving start now status

-- ---- the entity

-- At a desk of this object connections were attended to, by a worker at each of these benches but
-- the last, beside an errand at that one, which had one round more with the first bench at the end.
pub record ServesObject {X E R C B A : Type 0} (step : ℕ → E → X → R → X → Type 0)
    (attends : DeskSeat X E R → C → B → DeskSeat X E R → A → B → Type 0)
    (does : DeskSeat X E R → B → DeskSeat X E R → B → Type 0)
    (benches : List B) (object : X) (old new : B) : Type 0 where
  -- the first seat of the desk was lent, and came back
  pub lent : DeskSeat X E R
  pub back : DeskSeat X E R
  pub first : known_to lent ≡ newcomer object
  -- what it has gained is what attending and the errand gave
  pub served : GainsByServing attends does benches old new lent back
  -- nobody else asked, and by what was asked the object has become this one
  pub all : OwnsAll (known_to back)
  pub left : X
  pub leaves : Leaves step object (known_to back).seen left

-- A connection came and was attended to as HTTP by a CSE of this home: behind a fan-out the members
-- at other CSEs are asked as well.
abbrev pub AttendsWidely : {S X C L : Type 0} → (S → List (Marked Event Outcome) → S → Type 0)
    → (X → ConnTold) → (C → Option (List ℕ)) → (L → LinkTold) → HomeData
    → S → X → Bench C L → S → Attended X → Bench C L → Type 0
AttendsWidely grown conn clock link home =
    AttendsBy grown (TalksHttp (wide home) conn) clock link

-- what is done over HTTP, or else what is done over WebSocket, as the words say
abbrev pub ByBind : Bind → Type 0 → Type 0 → Type 0
ByBind over_http http ws = http
ByBind over_ws http ws = ws

-- Connections were attended to by a CSE with these steps, which opened as this object, each as HTTP
-- at this home or each as a WebSocket, as the words say, by as many workers as they say, where there
-- are benches for so many, beside a sender of what waits in its outbox.
abbrev pub ServesBound : {O X C L : Type 0} → (ℕ → Event → O → Outcome → O → Type 0)
    → (X → ConnTold) → (C → Option (List ℕ)) → (L → LinkTold) → List (Bench C L) → HomeData
    → Serving → O → Bench C L → Bench C L → Type 0
ServesBound {X = X} step conn clock link benches home serving object old new =
    ByBind serving.bind
    (ServesObject step (AttendsWidely SeatGrows conn clock link home)
    (SendsFrom SeatGrows clock link) (take (max 1 serving.workers + 1) benches) object old new)
    (ServesObject step (AttendsBy SeatGrows (TalksWs {X = X} plainly) clock link)
    (SendsFrom SeatGrows clock link) (take (max 1 serving.workers + 1) benches) object old new)

-- Connections were so attended to by an entity that opened as this one. Its steps are those of the
-- machine, or, where the words say that requests are answered later, those of a CSE that does so.
abbrev pub ServesAs : {X C L : Type 0} → Bool → (X → ConnTold) → (C → Option (List ℕ))
    → (L → LinkTold) → List (Bench C L) → HomeData → Serving → EntityData
    → Bench C L → Bench C L → Type 0
ServesAs false conn clock link benches home serving opened old new =
    ServesBound Step conn clock link benches home serving opened old new
ServesAs true conn clock link benches home serving opened old new =
    ServesBound LaterStep conn clock link benches home serving (begun opened) old new

abbrev pub ServesEntity : {X C L : Type 0} → (X → ConnTold) → (C → Option (List ℕ))
    → (L → LinkTold) → List (Bench C L) → HomeData → Serving → EntityData
    → Bench C L → Bench C L → Type 0
ServesEntity conn clock link benches home serving opened old new =
    ServesAs serving.later conn clock link benches home serving opened old new

-- A server with this first bench, whose clock gives one reading: at it the entity with this home
-- opens, by which the connections of the door are then `served`, which changes the bench at its
-- end. Where nobody was served, the bench stays as it is behind the reading.
pub record OpensServer {C L : Type 0} (served : EntityData → Bench C L → Bench C L → Type 0)
    (serving : Serving) (home : HomeData) (clock : C → Option (List ℕ))
    (bench left : Bench C L) (start now : DoorTold) (status : Status) : Type 0 where
  pub reading : ℕ
  pub between : Bench C L
  pub given : Tells (λ given. given ++ reading ∷ []) (clock bench.clock) (clock between.clock)
  pub link_is : between.link ≡ bench.link
  pub serves : RunsServe (served (opening home reading) between left) (left ≡ between)
      serving start now status
