-- That each entry of the reply to a fan-out is what the originator gets from that member alone at
-- its place (TS-0001, 10.2.7; TS-0004, 7.5.2).
use Rattle.std.specs.Prelude.{◌≡◌, ◌⊎◌, ℕ, true, false, List, [], ◌∷◌, map, Option, Some, None}
use Rattle.std.specs.Prelude.{Ok}
use Rattle.std.specs.List.{filter}
use Rattle.std.specs.declared.alloc.AllocError.{AllocError}
use Rattle.m2m_io.specs.Link.{Carrying}
use Rattle.m2m_names.specs.declared.codes.Rsc.TheVariants.{Ok as Fine}
use Rattle.m2m_value.specs.Data.{Data}
use Rattle.primitive_json.specs.declared.reply.ReplyParts.{ReplyParts}
use Rattle.primitive_json.specs.declared.request.RequestParts.{RequestParts}
use Rattle.resource_model.specs.Home.{HomeData}
use Rattle.resource_model.specs.Resource.{ResourceData}
use Rattle.tree_model.specs.Tree.{at}
use Rattle.addressing.specs.Addresses.{address_of}
use Rattle.addressing.specs.Names.{spot_of}
use Rattle.addressing.specs.declared.addr.Addr.TheVariants.{Local}
use Rattle.addressing.specs.declared.spot.Spot.TheVariants.{Fan}
use Rattle.entity_model.specs.Entity.{EntityData, swept}
use Rattle.entity_model.specs.Places.{first_fault, reply_to}
use Rattle.turn_desk.specs.Entries.{events_of, outcomes_of, readings_of}
use Rattle.turn_desk.specs.Growth.{IsOwnRun}
use Rattle.http_forwarding.specs.Carries.{LinkTold}
use Rattle.group_fanout.specs.Fan.{Single, addresses_of, fan_places, gathered_one, gathering}
use Rattle.group_fanout.specs.Fan.{requests_to, rest_of, singles_of, told_of}
use Rattle.cse_machine.specs.Answer.{first_places}
use Rattle.cse_machine.specs.History.{History, HistoryLeaves}
use Rattle.cse_machine.specs.Step.{Step}
use Rattle.cse_machine.specs.declared.event.Event.TheVariants.{Ask}
use Rattle.cse_machine.specs.declared.event.Outcome.{Outcome}
use Rattle.cse_machine.specs.declared.event.Outcome.TheVariants.{Done}
use Rattle.desk_replies.specs.Answering.{Answers}
use Rattle.desk_replies.specs.Replies.{CarriesEach, GivesReplies}
use Rattle.remote_members.specs.Remote.{is_remote}
use Rattle.remote_members.specs.Wide.{wide}

-- The address of a request leads to the fan-out point of a group, with this rest behind it, and no
-- place refuses the request.
pub record IsFannedOut (e : EntityData) (request : RequestParts) (group : ResourceData)
    (rest : List (List ℕ)) : Type 0 where
  pub number : ℕ
  pub place : ℕ
  pub segments : List (List ℕ)
  pub heard : first_fault (first_places e request) ≡ None
  pub address : address_of e.home request.to ≡ Ok (Local segments)
  pub spot : spot_of segments e.nodes ≡ Some (Fan number place)
  pub rest_is : rest ≡ rest_of e.home request.to place
  pub there : at number e.nodes ≡ Some group
  pub allowed : first_fault (fan_places e request group) ≡ None

-- What is told of the members of a group, one after another: of one at another CSE, the reply to the
-- question that was asked for it, of which these are left; and of each other, what the operation on
-- it gave, which was judged on what those before it left.
abbrev pub MembersAreTold : HomeData → List Single → List ReplyParts → List Data → Type 0
MembersAreTold home [] replies [] = replies ≡ []
MembersAreTold home [] replies (entry ∷ entries) = ⊥
MembersAreTold home (single ∷ singles) replies [] = ⊥
MembersAreTold home (single ∷ singles) replies (entry ∷ entries) =
    ((is_remote home single.request.to ≡ false) × (entry ≡ gathered_one single)
    × MembersAreTold home singles replies entries)
    ⊎ ((is_remote home single.request.to ≡ true) × (reply : ReplyParts)
    × (later : List ReplyParts) × (replies ≡ reply ∷ later)
    × (entry ≡ told_of reply single.request.to) × MembersAreTold home singles later entries)

-- The members of a group were answered for by an entity, with this rest behind the address of each:
-- its own ones in one event, and each at another CSE by a question behind that, which is a step of
-- its own, and whose outcome gave its reply, by what the link told for it; and the entries stand in
-- the order of `mid`.
pub record MembersAnswered (before after : EntityData) (old new : LinkTold)
    (request : RequestParts) (group : ResourceData) (rest : List (List ℕ)) (reading : ℕ)
    (later : List ℕ) (first reply : ReplyParts) (outcomes : List Outcome) : Type 0 where
  pub left : EntityData
  pub step : Step reading (Ask request) before (Done first) left
  -- the questions behind it: one to each member at another CSE, in the order of `mid`
  pub history : History
  pub leaves : HistoryLeaves left history after
  pub readings_are : readings_of history ≡ later
  pub events_are : events_of history ≡ map Ask (requests_to request
      (filter (is_remote before.home) (addresses_of rest group)))
  pub outcomes_are : outcomes_of history ≡ outcomes
  pub replies : List ReplyParts
  pub carried : List Carrying
  pub gives : GivesReplies (requests_to request
      (filter (is_remote before.home) (addresses_of rest group))) outcomes replies carried
  -- for these alone something was carried, which the link told
  pub link : CarriesEach carried old new
  -- and what is told of the members
  pub entries : List Data
  pub reply_is : reply ≡ reply_to request Fine (Some (gathering entries))
  pub told : MembersAreTold before.home (singles_of (swept reading before)
      (requests_to request (addresses_of rest group))) replies entries

-- Where a request is answered for the CSE of the entity's own home, also for members at other CSEs,
-- and is fanned out, and memory sufficed in its own event: each entry of the reply is what the
-- originator gets from that member alone at its place. What a question gives that goes on to another
-- CSE, whose talk the link's answer is, is what the machine of that CSE gives
-- (`WhatIsSentOnIsAnsweredOrRefused`).
abbrev pub EachMemberAnswersAtItsPlace : Type 0
EachMemberAnswersAtItsPlace =
    (before after : EntityData) (given now : Option (List ℕ)) (told more : LinkTold)
    (request : RequestParts) (group : ResourceData) (rest : List (List ℕ)) (reading : ℕ)
    (later : List ℕ) (first reply : ReplyParts) (outcomes : List Outcome)
    (answers : Answers {E = AllocError} (wide before.home) (IsOwnRun Step) before after given now
    told more request (Ok reply))
    → answers.asks.readings ≡ reading ∷ later → answers.asked.outcomes ≡ Done first ∷ outcomes
    → IsFannedOut (swept reading before) request group rest
    → MembersAnswered before after told more request group rest reading later first reply outcomes
