-- Which replies the outcomes of requests give, and what is carried for them.
use Rattle.std.specs.Prelude.{◌≡◌, ◌⊎◌, ℕ, true, false, List, [], ◌∷◌, ◌++◌, Option, Some, ⊤}
use Rattle.std.specs.Prelude.{IfOk, IfSome, None, Result}
use Rattle.std.specs.List.{All}
use Rattle.m2m_io.specs.Link.{Carrying}
use Rattle.primitive_json.specs.declared.reply.ReplyParts.{ReplyParts}
use Rattle.primitive_json.specs.declared.request.RequestParts.{RequestParts}
use Rattle.http_client_binding.specs.declared.target.Aim.TheVariants.{Peer}
use Rattle.http_forwarding.specs.Answers.{Carried}
use Rattle.http_forwarding.specs.Carries.{Carries, LinkTold}
use Rattle.http_forwarding.specs.Sending.{CarriesOne, IsFor, answer_of}
use Rattle.cse_machine.specs.Answer.{starved}
use Rattle.cse_machine.specs.declared.event.Outcome.{Outcome}
use Rattle.cse_machine.specs.declared.event.Outcome.TheVariants.{Done, Forward, Item, Ticked}
use Rattle.cse_machine.specs.declared.event.Outcome.TheVariants.{Starved}

-- Requests were carried over a link, one after another: what the link told behind each is what it
-- told before the next. So its count of faults rose in each exchange that failed, and in no other.
abbrev pub CarriesEach : List Carrying → LinkTold → LinkTold → Type 0
CarriesEach [] before now = now ≡ before
CarriesEach (carrying ∷ later) before now =
    (between : LinkTold) × Carries (carrying ∷ []) before between × CarriesEach later between now

-- What came of carrying a request gives this reply: the one that its exchange gives (TS-0001,
-- 10.2.2); or, where memory ran out, that it did.
abbrev pub RepliesBy : RequestParts → ReplyParts → Carrying → Type 0
RepliesBy sent reply carrying =
    ((carrying.starved ≡ true) × (reply ≡ starved sent))
    ⊎ ((carrying.starved ≡ false)
    × ((answer : Option (List ℕ)) × (answer_of carrying ≡ Some answer)
    × Carried answer sent.rqi reply))

-- A request was carried to the CSE at a URL over a link, which told `before` and tells `now`, and
-- what came of that gives this reply.
abbrev pub RepliesOnward : List ℕ → RequestParts → LinkTold → LinkTold → ReplyParts → Type 0
RepliesOnward url sent before now reply =
    CarriesOne sent url Peer before now (RepliesBy sent reply)

-- A request goes on to the CSE at a URL: it is carried there, and only there, by one exchange, or
-- by none where memory ran out before it; and what came of that gives this reply.
pub record GoesOn (url : List ℕ) (sent : RequestParts) (reply : ReplyParts)
    (carried : List Carrying) : Type 0 where
  pub carrying : Carrying
  pub once : carried ≡ carrying ∷ []
  pub made : IfSome carrying.made (IsFor sent url Peer)
  pub replies : RepliesBy sent reply carrying

-- The reply that the outcome of a request gives, and what is carried to other CSEs for it: nothing,
-- unless the request goes on to one. Where memory ran out, the reply says that it did; and so it
-- does for an outcome that no request has.
abbrev pub GivesReply : RequestParts → Outcome → ReplyParts → List Carrying → Type 0
GivesReply request (Done answered) reply carried = (reply ≡ answered) × (carried ≡ [])
GivesReply request (Forward poa sent) reply carried = GoesOn poa sent reply carried
GivesReply request (Item given) reply carried = (reply ≡ starved request) × (carried ≡ [])
GivesReply request Ticked reply carried = (reply ≡ starved request) × (carried ≡ [])
GivesReply request (Starved done) reply carried = (reply ≡ starved request) × (carried ≡ [])

-- the reply that an outcome is
abbrev pub reply_of : Outcome → Option ReplyParts
reply_of (Done reply) = Some reply
reply_of (Forward poa sent) = None
reply_of (Item given) = None
reply_of Ticked = None
reply_of (Starved done) = None

-- The outcome of a request gave this reply over a link that told `old` before and tells `new` now,
-- unless memory ran out.
pub record RepliesOver {E : Type 0}
    (request : RequestParts) (outcome : Outcome) (old new : LinkTold)
    (result : Result ReplyParts E) : Type 0 where
  pub reply : ReplyParts
  pub carried : List Carrying
  pub gives : GivesReply request outcome reply carried
  pub link : CarriesEach carried old new
  pub replied : IfOk result (λ r. r ≡ reply)

-- The replies that the outcomes of requests give, one after another, and what is carried for them
-- in turn.
abbrev pub GivesReplies :
    List RequestParts → List Outcome → List ReplyParts → List Carrying → Type 0
GivesReplies [] [] [] carried = carried ≡ []
GivesReplies (request ∷ requests) (outcome ∷ outcomes) (reply ∷ replies) carried =
    (first : List Carrying) × (later : List Carrying) × (carried ≡ first ++ later)
    × GivesReply request outcome reply first × GivesReplies requests outcomes replies later
GivesReplies requests outcomes replies carried = ⊥

-- the entity itself answers, and the request doesn't go on to another CSE
abbrev pub IsAnsweredHere : Outcome → Type 0
IsAnsweredHere (Done answered) = ⊤
IsAnsweredHere (Forward poa sent) = ⊥
IsAnsweredHere (Item given) = ⊤
IsAnsweredHere Ticked = ⊤
IsAnsweredHere (Starved done) = ⊤

-- Where the entity itself answers each request, nothing is carried to another CSE.
abbrev pub WhatIsAnsweredHereIsNotCarried : Type 0
WhatIsAnsweredHereIsNotCarried =
    (requests : List RequestParts) (outcomes : List Outcome)
    (replies : List ReplyParts) (carried : List Carrying)
    → GivesReplies requests outcomes replies carried → All IsAnsweredHere outcomes
    → carried ≡ []

-- Where requests were carried one after another, the link tells the exchanges of all of them, in
-- order; and its count of faults rose where one of them failed, and only there.
abbrev pub TheLinkTellsAllThatIsCarried : Type 0
TheLinkTellsAllThatIsCarried =
    (carried : List Carrying) (before now : LinkTold)
    → CarriesEach carried before now → Carries carried before now
