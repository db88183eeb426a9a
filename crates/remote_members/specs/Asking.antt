-- What is asked for members of a group, and what is told of them by that.
use Rattle.std.specs.Prelude.{◌≡◌, ℕ, Bool, true, false, List, [], ◌∷◌, ◌++◌, Option, IfOk}
use Rattle.std.specs.Prelude.{Result}
use Rattle.m2m_io.specs.Link.{Carrying}
use Rattle.m2m_value.specs.Data.{Data}
use Rattle.primitive_json.specs.declared.reply.ReplyParts.{ReplyParts}
use Rattle.primitive_json.specs.declared.request.RequestParts.{RequestParts}
use Rattle.resource_model.specs.Home.{HomeData}
use Rattle.turn_desk.specs.Entries.{Marked}
use Rattle.http_forwarding.specs.Carries.{LinkTold}
use Rattle.group_fanout.specs.Fan.{requests_to}
use Rattle.cse_machine.specs.declared.event.Event.{Event}
use Rattle.cse_machine.specs.declared.event.Outcome.{Outcome}
use Rattle.cse_machine.specs.declared.event.Outcome.TheVariants.{Done, Forward, Item, Ticked}
use Rattle.cse_machine.specs.declared.event.Outcome.TheVariants.{Starved}
use Rattle.desk_replies.specs.Asking.{Asked, HasAsked}
use Rattle.remote_members.specs.Remote.{remote_address, remote_addresses, entries_anew, told_by}
use Rattle.remote_members.specs.Wide.{completed}
use Rattle.remote_members.specs.declared.asking.Answered.{Answered}

-- the outcome is a reply of the entity itself
abbrev pub is_done : Outcome → Bool
is_done (Done reply) = true
is_done (Forward poa sent) = false
is_done (Item given) = false
is_done Ticked = false
is_done (Starved done) = false

-- one request that was asked, what came of it, and what was carried for it
abbrev pub one_asked : RequestParts → Outcome → ReplyParts → List Carrying → Asked
one_asked request outcome reply carried = record {
  requests = request ∷ [];
  outcomes = outcome ∷ [];
  replies = reply ∷ [];
  carried = carried;
}

-- One request was asked at a seat, and this is the reply that its outcome gives, unless memory ran
-- out.
pub record AsksOne {S E : Type 0} (grown : S → List (Marked Event Outcome) → S → Type 0)
    (before after : S) (given now : Option (List ℕ)) (told more : LinkTold)
    (request : RequestParts) (result : Result Answered E) : Type 0 where
  pub outcome : Outcome
  pub reply : ReplyParts
  pub carried : List Carrying
  pub asks : HasAsked grown before after given now told more
      (one_asked request outcome reply carried)
  pub replied : IfOk result (λ a. (a.reply ≡ reply) × (a.is_own ≡ is_done outcome))

-- These requests were asked at a seat, one after another, and all of them unless memory ran out;
-- and what came of them gives this.
pub record AsksMembers {S A E : Type 0} (grown : S → List (Marked Event Outcome) → S → Type 0)
    (before after : S) (given now : Option (List ℕ)) (told more : LinkTold)
    (requests : List RequestParts) (gives : List ReplyParts → A → Type 0) (result : Result A E)
    : Type 0 where
  pub asked : Asked
  pub unasked : List RequestParts
  pub asks : HasAsked grown before after given now told more asked
  pub front : asked.requests ++ unasked ≡ requests
  pub given_all : IfOk result (λ a. (unasked ≡ []) × gives asked.replies a)

-- what is asked for members of which these are told: a request to each that is at another CSE
abbrev pub requests_for : HomeData → RequestParts → List Data → List RequestParts
requests_for home request entries = requests_to request (remote_addresses home entries)

-- what is asked for one member, of which this is told
abbrev pub request_for : HomeData → RequestParts → Data → List RequestParts
request_for home request entry = requests_for home request (entry ∷ [])

-- with these replies to what was asked for a member, this is told of that member
abbrev pub TellsMember : HomeData → Data → List ReplyParts → Data → Type 0
TellsMember home entry replies told = told ≡ told_by (remote_address home entry) entry replies

-- and with these replies to what was asked for several members, these are told of them, in order
abbrev pub TellsMembers : HomeData → List Data → List ReplyParts → List Data → Type 0
TellsMembers home entries replies told = told ≡ entries_anew home entries replies

-- with these replies to what was asked for its members, the reply of an entity is completed so
abbrev pub Completes : HomeData → ReplyParts → List ReplyParts → ReplyParts → Type 0
Completes home reply replies told = told ≡ completed home reply replies
