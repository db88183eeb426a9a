-- What an event may come to beside the outcome of the entity inside.
use Rattle.std.specs.Prelude.{◌≡◌, ◌⊎◌, ℕ, ◌+◌, true, false, Some}
use Rattle.m2m_names.specs.declared.codes.Rsc.TheVariants.{Accepted, NoPrivilege, NonBlocking}
use Rattle.m2m_names.specs.declared.codes.Rsc.TheVariants.{NotAcceptable, NotFound, Ok as Fine}
use Rattle.m2m_names.specs.declared.operations.Op.TheVariants.{Delete, Retrieve}
use Rattle.primitive_json.specs.declared.reply.ReplyParts.{ReplyParts}
use Rattle.primitive_json.specs.declared.request.RequestParts.{RequestParts}
use Rattle.resource_model.specs.Home.{HomeData}
use Rattle.entity_model.specs.Places.{refusal, reply_to}
use Rattle.group_fanout.specs.Rights.{claimed_originator}
use Rattle.cse_machine.specs.declared.event.Event.{Event}
use Rattle.cse_machine.specs.declared.event.Event.TheVariants.{Ask}
use Rattle.cse_machine.specs.declared.event.Outcome.{Outcome}
use Rattle.cse_machine.specs.declared.event.Outcome.TheVariants.{Done, Starved}
use Rattle.later_replies.specs.Effects.{is_acceptable, is_full, is_own, is_status, own_effect}
use Rattle.later_replies.specs.Effects.{with_accepted}
use Rattle.later_replies.specs.Entries.{LaterEntryData, LaterRequestsData}
use Rattle.accepted_requests.specs.Form.{entry_content, uri_content}
use Rattle.later_replies.specs.Names.{entry_at}

-- The entity inside refuses the request of the event since it isn't blocking. The request asks to
-- be answered later, is sent to this CSE, and names no accepted request that is kept.
pub record AsksLater (home : HomeData) (requests : LaterRequestsData) (event : Event)
    (told : Outcome) : Type 0 where
  pub request : RequestParts
  pub asks : event ≡ Ask request
  pub reply : ReplyParts
  pub refused : told ≡ Done reply
  pub status : is_status reply.rsc NonBlocking ≡ true
  pub acceptable : is_acceptable home requests request ≡ true

-- The entity inside has nothing of the address of the event's request, which names an accepted
-- request that is kept.
pub record NamesAccepted (home : HomeData) (requests : LaterRequestsData) (event : Event)
    (told : Outcome) : Type 0 where
  pub request : RequestParts
  pub asks : event ≡ Ask request
  pub reply : ReplyParts
  pub refused : told ≡ Done reply
  pub status : is_status reply.rsc NotFound ≡ true
  pub named : LaterEntryData
  pub names : entry_at home request.to requests ≡ Some named

-- ---- what it comes to

-- The outcome of the entity inside stands, and so do the accepted requests.
pub record Stands (requests : LaterRequestsData) (told outcome : Outcome)
    (after : LaterRequestsData) : Type 0 where
  pub comes : outcome ≡ told
  pub same : after ≡ requests

-- Memory ran out for the reply, and the accepted requests stand.
pub record RunsOut (requests : LaterRequestsData) (outcome : Outcome)
    (after : LaterRequestsData) : Type 0 where
  pub comes : outcome ≡ Starved 0
  pub same : after ≡ requests

-- The request asks to be answered later, and there is no room for it.
pub record HasNoRoom (home : HomeData) (requests : LaterRequestsData) (event : Event)
    (told outcome : Outcome) (after : LaterRequestsData) : Type 0 where
  pub asked : AsksLater home requests event told
  pub full : is_full requests ≡ true
  pub comes : outcome ≡ Done (refusal asked.request NotAcceptable)
  pub same : after ≡ requests

-- The request is accepted for its originator at this moment, under the next number, which its reply
-- tells.
pub record IsTakenUp (home : HomeData) (requests : LaterRequestsData) (moment : ℕ) (event : Event)
    (told outcome : Outcome) (after : LaterRequestsData) : Type 0 where
  pub asked : AsksLater home requests event told
  pub room : is_full requests ≡ false
  pub comes : outcome
      ≡ Done (reply_to asked.request Accepted (Some (uri_content (requests.given + 1))))
  pub accepted : after
      ≡ with_accepted requests (claimed_originator home asked.request) asked.request moment

-- The request names another's accepted request, where it has no right.
pub record IsDenied (home : HomeData) (requests : LaterRequestsData) (event : Event)
    (told outcome : Outcome) (after : LaterRequestsData) : Type 0 where
  pub at : NamesAccepted home requests event told
  pub others : is_own home at.request at.named ≡ false
  pub comes : outcome ≡ Done (refusal at.request NoPrivilege)
  pub same : after ≡ requests

-- The request names its originator's own accepted request, and has what its operation gives there.
pub record IsOwnAsked (home : HomeData) (requests : LaterRequestsData) (event : Event)
    (told outcome : Outcome) (after : LaterRequestsData) : Type 0 where
  pub at : NamesAccepted home requests event told
  pub own : is_own home at.request at.named ≡ true
  pub comes : outcome ≡ Done (own_effect at.request.op requests at.request at.named).reply
  pub left : after ≡ (own_effect at.request.op requests at.request at.named).requests

-- One of these is what the event comes to, where the entity inside told this, and these accepted
-- requests were kept.
abbrev pub ComesTo : HomeData → LaterRequestsData → ℕ → Event → Outcome → Outcome
    → LaterRequestsData → Type 0
ComesTo home requests moment event told outcome after =
    Stands requests told outcome after
    ⊎ (RunsOut requests outcome after
    ⊎ (HasNoRoom home requests event told outcome after
    ⊎ (IsTakenUp home requests moment event told outcome after
    ⊎ (IsDenied home requests event told outcome after
    ⊎ IsOwnAsked home requests event told outcome after))))

-- ---- what is shown, and what goes

-- The reply tells the number under which the request was accepted, and shows nothing else.
pub record TellsNumber (home : HomeData) (requests : LaterRequestsData) (event : Event)
    (told : Outcome) (reply : ReplyParts) : Type 0 where
  pub asked : AsksLater home requests event told
  pub shows : reply ≡ reply_to asked.request Accepted (Some (uri_content (requests.given + 1)))

-- The event retrieves its originator's own accepted request, and the reply shows that.
pub record ShowsOwn (home : HomeData) (requests : LaterRequestsData) (event : Event)
    (told : Outcome) (reply : ReplyParts) : Type 0 where
  pub at : NamesAccepted home requests event told
  pub own : is_own home at.request at.named ≡ true
  pub retrieves : at.request.op ≡ Retrieve
  pub shows : reply ≡ reply_to at.request Fine (Some (entry_content at.named))

-- The event is a Delete, by its originator, of the accepted request of this number, which it names
-- among those that are kept.
pub record IsDeletedByOwn (home : HomeData) (requests : LaterRequestsData) (event : Event)
    (number : ℕ) : Type 0 where
  pub request : RequestParts
  pub asks : event ≡ Ask request
  pub deletes : request.op ≡ Delete
  pub named : LaterEntryData
  pub names : entry_at home request.to requests ≡ Some named
  pub own : is_own home request named ≡ true
  pub is_number : named.number ≡ number
