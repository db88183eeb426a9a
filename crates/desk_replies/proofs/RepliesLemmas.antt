-- Replies that outcomes give, joined and compared.
use Rattle.std.proofs.Common.{◌≡◌, ℕ, true, false, List, [], ◌∷◌, ◌++◌, length, Option, Some, None, Result, Ok, IfOk, inl, inr, refl, sym, ap, subst, ◌∙◌, arith, append_assoc, append-nil}
use Rattle.std.proofs.lemmas.List.Elements.{All-head, All-tail}
use Rattle.std.proofs.lemmas.Option.{same_Some}
use Rattle.m2m_io.specs.Link.{Carrying}
use Rattle.primitive_json.specs.declared.reply.ReplyParts.{ReplyParts}
use Rattle.primitive_json.specs.declared.request.RequestParts.{RequestParts}
use Rattle.cse_machine.specs.Answer.{starved}
use Rattle.cse_machine.specs.declared.event.Outcome.{Outcome}
use Rattle.cse_machine.specs.declared.event.Outcome.TheVariants.{Done, Forward, Item, Ticked, Starved}
use Rattle.http_forwarding.specs.Carries.{LinkTold}
use Rattle.http_forwarding.specs.Answers.{Carried}
use Rattle.http_forwarding.specs.Sending.{CarriesOne, answer_of}
use Rattle.http_client_binding.specs.declared.target.Aim.TheVariants.{Peer}
use Rattle.desk_replies.specs.Replies.{RepliesOver, reply_of}
use Rattle.desk_replies.specs.Replies.{GivesReply, GivesReplies, GoesOn, IsAnsweredHere, RepliesOnward, WhatIsAnsweredHereIsNotCarried}

-- one outcome
pub gives-one : (request : RequestParts) (outcome : Outcome) (reply : ReplyParts) (carried : List Carrying)
    → GivesReply request outcome reply carried → GivesReplies (request ∷ []) (outcome ∷ []) (reply ∷ []) carried
gives-one request outcome reply carried g = (carried, [], sym (append-nil carried), g, refl)

-- the outcomes of some requests, and of others behind them
pub gives-append : (xs ys : List RequestParts) (os os' : List Outcome) (ps ps' : List ReplyParts) (es es' : List Carrying)
    → GivesReplies xs os ps es → GivesReplies ys os' ps' es' → GivesReplies (xs ++ ys) (os ++ os') (ps ++ ps') (es ++ es')
gives-append [] ys [] os' [] ps' es es' first then =
    subst (λ (v : List Carrying). GivesReplies ys os' ps' (v ++ es')) (sym first) then
gives-append [] ys [] os' (p ∷ ps) ps' es es' first then = absurd first
gives-append [] ys (o ∷ os) os' [] ps' es es' first then = absurd first
gives-append [] ys (o ∷ os) os' (p ∷ ps) ps' es es' first then = absurd first
gives-append (x ∷ xs) ys [] os' [] ps' es es' first then = absurd first
gives-append (x ∷ xs) ys [] os' (p ∷ ps) ps' es es' first then = absurd first
gives-append (x ∷ xs) ys (o ∷ os) os' [] ps' es es' first then = absurd first
gives-append (x ∷ xs) ys (o ∷ os) os' (p ∷ ps) ps' es es' first then = (
  first.0,
  first.1 ++ es',
  ap (λ (v : List Carrying). v ++ es') first.2 ∙ append_assoc first.0 first.1 es',
  first.3,
  gives-append xs ys os os' ps ps' first.1 es' first.4 then,
)

-- each request has its reply
pub gives-length : (xs : List RequestParts) (os : List Outcome) (ps : List ReplyParts) (es : List Carrying)
    → GivesReplies xs os ps es → length ps ≡ length xs
gives-length [] [] [] es g = refl
gives-length [] [] (p ∷ ps) es g = absurd g
gives-length [] (o ∷ os) [] es g = absurd g
gives-length [] (o ∷ os) (p ∷ ps) es g = absurd g
gives-length (x ∷ xs) [] [] es g = absurd g
gives-length (x ∷ xs) [] (p ∷ ps) es g = absurd g
gives-length (x ∷ xs) (o ∷ os) [] es g = absurd g
gives-length (x ∷ xs) (o ∷ os) (p ∷ ps) es g = let rest = gives-length xs os ps g.1 g.4 in omega (arith, rest)

-- ---- one reply over a link

-- the request doesn't go on
abbrev pub StaysHere : Outcome → Type 0
StaysHere outcome = (poa : List ℕ) (sent : RequestParts) → outcome ≡ Forward poa sent → ⊥

-- what is carried for a request that goes on
pub onward_goes : (url : List ℕ) (sent : RequestParts) (reply : ReplyParts) (before now : LinkTold) (one : RepliesOnward url sent before now reply)
    → GoesOn url sent reply (one.carrying ∷ [])
onward_goes url sent reply before now one = record {
  carrying = one.carrying;
  once = refl;
  made = one.made;
  replies = one.came;
}

-- the exchange of a request that goes on gave its reply
pub onward_ok : (spelled url : List ℕ) (sent : RequestParts) (reply : ReplyParts) (before now : LinkTold) → spelled ≡ url
    → CarriesOne sent spelled Peer before now (λ carrying. (carrying.starved ≡ false)
    × ((answer : Option (List ℕ)) × (answer_of carrying ≡ Some answer) × Carried answer sent.rqi reply))
    → RepliesOnward url sent before now reply
onward_ok spelled url sent reply before now same carried =
    subst (λ (u : List ℕ). RepliesOnward u sent before now reply) same
    (record {
      carrying = carried.carrying;
      made = carried.made;
      link = carried.link;
      came = inr (carried.came.0, carried.came.1);
    })

-- memory ran out as it was carried
pub onward_starved : (spelled url : List ℕ) (sent : RequestParts) (reply : ReplyParts) (before now : LinkTold) → spelled ≡ url
    → CarriesOne sent spelled Peer before now (λ carrying. carrying.starved ≡ true) → reply ≡ starved sent
    → RepliesOnward url sent before now reply
onward_starved spelled url sent reply before now same carried is =
    subst (λ (u : List ℕ). RepliesOnward u sent before now reply) same
    (record {
      carrying = carried.carrying;
      made = carried.made;
      link = carried.link;
      came = inl (carried.came, is);
    })

-- an outcome that isn't one gives no reply
pub no_reply : (outcome : Outcome) → ((reply : ReplyParts) → outcome ≡ Done reply → ⊥) → reply_of outcome ≡ None
no_reply (Done reply) other = absurd (other reply refl)
no_reply (Forward poa sent) other = refl
no_reply (Item given) other = refl
no_reply Ticked other = refl
no_reply (Starved done) other = refl

module _ {E : Type 0} where
  -- an outcome that is a reply
  pub over_done : (request : RequestParts) (outcome : Outcome) (reply : ReplyParts) (told : LinkTold) → reply_of outcome ≡ Some reply
      → RepliesOver {E = E} request outcome told told (Ok reply)
  over_done request outcome reply told some = record {
    reply = reply;
    carried = [];
    gives = gives_done request outcome reply some;
    link = refl;
    replied = refl;
  }
    where
      gives_done : (request : RequestParts) (outcome : Outcome) (reply : ReplyParts) → reply_of outcome ≡ Some reply → GivesReply request outcome reply []
      gives_done request (Done answered) reply some = (sym (same_Some answered reply some), refl)
      gives_done request (Forward poa sent) reply some = cc
      gives_done request (Item given) reply some = cc
      gives_done request Ticked reply some = cc
      gives_done request (Starved done) reply some = cc

  -- one by which the request goes on
  pub over_forward : (request : RequestParts) (outcome : Outcome) (url : List ℕ) (sent : RequestParts) (reply : ReplyParts) (old new : LinkTold)
      → outcome ≡ Forward url sent → RepliesOnward url sent old new reply
      → RepliesOver {E = E} request outcome old new (Ok reply)
  over_forward request outcome url sent reply old new is one = record {
    reply = reply;
    carried = one.carrying ∷ [];
    gives = subst (λ (o : Outcome). GivesReply request o reply (one.carrying ∷ [])) (sym is) (onward_goes url sent reply old new one);
    link = (new, one.link, refl);
    replied = refl;
  }

  -- one that is no reply, where the request doesn't go on, gives that memory ran out
  pub over_starved : (request : RequestParts) (outcome : Outcome) (told : LinkTold) (result : Result ReplyParts E)
      → reply_of outcome ≡ None → StaysHere outcome → IfOk result (λ r. r ≡ starved request) → RepliesOver request outcome told told result
  over_starved request outcome told result none here says = record {
    reply = starved request;
    carried = [];
    gives = gives_starved request outcome none here;
    link = refl;
    replied = says;
  }
    where
      gives_starved : (request : RequestParts) (outcome : Outcome) → reply_of outcome ≡ None → StaysHere outcome → GivesReply request outcome (starved request) []
      gives_starved request (Done answered) none here = cc
      gives_starved request (Forward poa sent) none here = absurd (here poa sent refl)
      gives_starved request (Item given) none here = (refl, refl)
      gives_starved request Ticked none here = (refl, refl)
      gives_starved request (Starved done) none here = (refl, refl)

-- ---- what the entity itself answers

no_cost : (request : RequestParts) (outcome : Outcome) (reply : ReplyParts) (carried : List Carrying)
    → IsAnsweredHere outcome → GivesReply request outcome reply carried → carried ≡ []
no_cost request (Done answered) reply carried here g = g.1
no_cost request (Forward poa sent) reply carried here g = absurd here
no_cost request (Item given) reply carried here g = g.1
no_cost request Ticked reply carried here g = g.1
no_cost request (Starved done) reply carried here g = g.1

pub not_carried : WhatIsAnsweredHereIsNotCarried
not_carried [] [] [] carried g here = g
not_carried [] [] (p ∷ ps) carried g here = absurd g
not_carried [] (o ∷ os) ps carried g here = absurd g
not_carried (x ∷ xs) [] ps carried g here = absurd g
not_carried (x ∷ xs) (o ∷ os) [] carried g here = absurd g
not_carried (x ∷ xs) (o ∷ os) (p ∷ ps) carried g here =
    g.2 ∙ (λ i. no_cost x o p g.0 (All-head IsAnsweredHere o os here) g.3 i ++ not_carried xs os ps g.1 g.4 (All-tail IsAnsweredHere o os here) i)
