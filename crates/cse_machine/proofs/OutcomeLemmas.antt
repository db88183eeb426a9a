-- What comes of a request to a resource, and that it is a step.
use Rattle.std.proofs.Common.{◌≡◌, ◌⊎◌, ℕ, List, true, false, Option, Some, None, Result, Ok, Err, inl, inr, refl, sym, ap, subst, ◌∙◌}
use Rattle.std.specs.Option.{option_map_or}
use Rattle.m2m_names.specs.declared.codes.Rsc.{Rsc}
use Rattle.m2m_names.specs.declared.codes.Rsc.TheVariants.{BadRequest, NotFound, NotReachable}
use Rattle.m2m_names.specs.declared.codes.Rsc.TheVariants.{Ok as Fine}
use Rattle.m2m_names.specs.declared.operations.Op.{Op}
use Rattle.m2m_names.specs.declared.operations.Op.TheVariants.{Notify}
use Rattle.primitive_json.specs.declared.note.NoteParts.{NoteParts}
use Rattle.primitive_json.specs.declared.reply.ReplyParts.{ReplyParts}
use Rattle.primitive_json.specs.declared.request.RequestParts.{RequestParts}
use Rattle.tree_model.specs.Tree.{has}
use Rattle.addressing.specs.Addresses.{address_of}
use Rattle.addressing.specs.Names.{segments_of, spot_of}
use Rattle.addressing.specs.declared.addr.Addr.{Addr}
use Rattle.addressing.specs.declared.addr.Addr.TheVariants.{Local}
use Rattle.addressing.specs.declared.addr.AddrFault.{AddrFault}
use Rattle.addressing.specs.declared.spot.Spot.{Spot}
use Rattle.addressing.specs.declared.spot.Spot.TheVariants.{Poll}
use Rattle.entity_model.specs.Entity.{EntityData, swept}
use Rattle.entity_model.specs.Places.{Effect, first_fault, refusal, refused, reply_alone, reply_to}
use Rattle.cse_machine.specs.declared.event.Event.{Event}
use Rattle.cse_machine.specs.declared.event.Event.TheVariants.{Ask, Take, Tick}
use Rattle.cse_machine.specs.declared.event.Outcome.{Outcome}
use Rattle.cse_machine.specs.declared.event.Outcome.TheVariants.{Done, Forward, Item, Ticked, Starved}
use Rattle.cse_machine.specs.Answer.{EventEffect, address_effect, answer_places, as_done, effect_of, first_places, goes_on, onward_effect, point_of, poll_effect, route_effect, spot_effect}
use Rattle.retarget.specs.Routes.{forwarded, routed}
use Rattle.retarget.specs.declared.routing.Route.{Route}
use Rattle.retarget.specs.declared.routing.Route.TheVariants as to
use Rattle.group_fanout.specs.Rights.{claimed_originator}
use Rattle.cse_machine.specs.Step.{IsAnswered, IsUnswept, Occurs, Step}
use Rattle.cse_machine.proofs.RouteLemmas.{stays_here}

-- ---- outcomes

pub same_reply : (reply other : ReplyParts) → Done reply ≡ Done other → reply ≡ other
same_reply reply other same = cc

-- ---- at a poll point

pub poll_there : (e : EntityData) (request : RequestParts) (channel : ℕ) → has channel e.nodes ≡ true → spot_effect e request (Some (Poll channel)) ≡ poll_effect request.op e request channel
poll_there e request channel is = rw is refl

pub poll_absent : (e : EntityData) (request : RequestParts) (channel : ℕ) → has channel e.nodes ≡ false → spot_effect e request (Some (Poll channel)) ≡ refused e request NotFound
poll_absent e request channel none = rw none refl

pub polled_by : (op : Op) (e : EntityData) (request : RequestParts) (channel : ℕ) → request.op ≡ op → poll_effect request.op e request channel ≡ poll_effect op e request channel
polled_by op e request channel is = ap (λ (p : Op). poll_effect p e request channel) is

-- what answers a poll changes nothing, refused or not
by_place : (e : EntityData) (request : RequestParts) (fault : Option Rsc) (x : Effect) → x.after ≡ e → (option_map_or (refused e request) fault x).after ≡ e
by_place e request None x stays = stays
by_place e request (Some fault) x stays = refl

pub answered_stays : (e : EntityData) (request : RequestParts) (channel : ℕ) → request.op ≡ Notify → e ≡ (poll_effect request.op e request channel).after
answered_stays e request channel is =
    sym (ap (λ (x : Effect). x.after) (polled_by Notify e request channel is)
    ∙ by_place e request (first_fault (answer_places e request channel)) (reply_alone e (reply_to request Fine None)) refl)

-- ---- as it is answered

-- a request is answered by a reply, or goes on
abbrev IsAnswer : EntityData → RequestParts → EventEffect → Type 0
IsAnswer e request effect =
    ((x : Effect) × (effect ≡ as_done x)) ⊎ ((poa : List ℕ) × (effect ≡ goes_on e request poa))

answer_onward : (e : EntityData) (request : RequestParts) (poa : Option (List ℕ)) → IsAnswer e request (onward_effect e request poa)
answer_onward e request None = inl (refused e request NotReachable, refl)
answer_onward e request (Some poa) = inr (poa, refl)

answer_by_route : (e : EntityData) (request : RequestParts) (segments : List (List ℕ)) (route : Route) → IsAnswer e request (route_effect e request segments route)
answer_by_route e request segments to.Local = inl (spot_effect e request (spot_of segments e.nodes), refl)
answer_by_route e request segments to.Unknown = inl (refused e request NotFound, refl)
answer_by_route e request segments to.NoHop = inl (refused e request NotReachable, refl)
answer_by_route e request segments to.NoPoint = inl (refused e request NotReachable, refl)
answer_by_route e request segments (to.Forward n) = answer_onward e request (point_of e.nodes n)

answer_by_address : (e : EntityData) (request : RequestParts) (a : Result Addr AddrFault) → IsAnswer e request (address_effect e request a)
answer_by_address e request (Ok addr) =
    answer_by_route e request (segments_of addr) (routed e.nodes (claimed_originator e.home request) addr)
answer_by_address e request (Err fault) = inl (refused e request BadRequest, refl)

answer_by_place : (e : EntityData) (request : RequestParts) (f : Option Rsc) (a : Result Addr AddrFault) → IsAnswer e request (option_map_or (λ (fault : Rsc). as_done (refused e request fault)) f (address_effect e request a))
answer_by_place e request (Some fault) a = inl (refused e request fault, refl)
answer_by_place e request None a = answer_by_address e request a

pub effect_answers : (e : EntityData) (request : RequestParts) → IsAnswer e request (effect_of e request)
effect_answers e request = answer_by_place e request (first_fault (first_places e request)) (address_of e.home request.to)

given_done : (given : Option NoteParts) (reply : ReplyParts) → Item given ≡ Done reply → ⊥
given_done given reply same = cc

given_onward : (given : Option NoteParts) (poa : List ℕ) (onward : RequestParts) → Item given ≡ Forward poa onward → ⊥
given_onward given poa onward same = cc

ticked_done : (reply : ReplyParts) → Ticked ≡ Done reply → ⊥
ticked_done reply same = cc

ticked_onward : (poa : List ℕ) (onward : RequestParts) → Ticked ≡ Forward poa onward → ⊥
ticked_onward poa onward same = cc

starved_done : (done : ℕ) (reply : ReplyParts) → Starved done ≡ Done reply → ⊥
starved_done done reply same = cc

starved_onward : (done : ℕ) (poa : List ℕ) (onward : RequestParts) → Starved done ≡ Forward poa onward → ⊥
starved_onward done poa onward same = cc

-- what is neither a reply nor goes on is no answer
no_answer : (e : EntityData) (request : RequestParts) (outcome : Outcome) → ((reply : ReplyParts) → outcome ≡ Done reply → ⊥) → ((poa : List ℕ) (onward : RequestParts) → outcome ≡ Forward poa onward → ⊥) → outcome ≡ (effect_of e request).outcome → ⊥
no_answer e request outcome undone kept is = elim (effect_answers e request) [
  | inl done ↦ undone done.0.reply (is ∙ ap (λ (x : EventEffect). x.outcome) done.1)
  | inr on ↦
      kept on.0 (forwarded e.home (claimed_originator e.home request) request)
      (is ∙ ap (λ (x : EventEffect). x.outcome) on.1)
]

-- so what comes of it answers it
pub came_of : (request : RequestParts) (before after : EntityData) (outcome : Outcome) → outcome ≡ (effect_of before request).outcome → after ≡ (effect_of before request).after → IsAnswered before request outcome after
came_of request before after (Done reply) is left = (is, left)
came_of request before after (Forward poa onward) is left = (is, left)
came_of request before after (Item given) is left =
    absurd (no_answer before request (Item given) (given_done given) (given_onward given) is)
came_of request before after Ticked is left =
    absurd (no_answer before request Ticked ticked_done ticked_onward is)
came_of request before after (Starved done) is left =
    absurd (no_answer before request (Starved done) (starved_done done) (starved_onward done) is)

-- a place that refuses it gives its refusal
pub place_answers : (e : EntityData) (request : RequestParts) (fault : Rsc) (reply : ReplyParts) → first_fault (first_places e request) ≡ Some fault → reply ≡ refusal request fault → IsAnswered e request (Done reply) e
place_answers e request fault reply place told =
    let gives : as_done (refused e request fault) ≡ effect_of e request =
    ap (λ (f : Option Rsc). option_map_or (λ (r : Rsc). as_done (refused e request r)) f (address_effect e request (address_of e.home request.to))) (sym place) in
    (ap Done told ∙ ap (λ (x : EventEffect). x.outcome) gives, ap (λ (x : EventEffect). x.after) gives)

-- what no place refuses gives what its address gives
heard_gives : (e : EntityData) (request : RequestParts) (addr : Addr) → first_fault (first_places e request) ≡ None → address_of e.home request.to ≡ Ok addr → address_effect e request (Ok addr) ≡ effect_of e request
heard_gives e request addr heard is =
    ap (address_effect e request) (sym is)
    ∙ ap (λ (f : Option Rsc). option_map_or (λ (r : Rsc). as_done (refused e request r)) f (address_effect e request (address_of e.home request.to))) (sym heard)

pub heard_answers : (e after : EntityData) (request : RequestParts) (addr : Addr) (outcome : Outcome) → first_fault (first_places e request) ≡ None → address_of e.home request.to ≡ Ok addr → outcome ≡ (address_effect e request (Ok addr)).outcome → after ≡ (address_effect e request (Ok addr)).after → IsAnswered e request outcome after
heard_answers e after request addr outcome heard is told left =
    let gives = heard_gives e request addr heard is in
    came_of request e after outcome (told ∙ ap (λ (x : EventEffect). x.outcome) gives) (left ∙ ap (λ (x : EventEffect). x.after) gives)

-- ---- as its address leads here

pub here_occurs : (event : Event) (e after : EntityData) (request : RequestParts) (addr : Addr) (segments : List (List ℕ)) (spot : Option Spot) (reply : ReplyParts)
    → event ≡ Ask request → first_fault (first_places e request) ≡ None → address_of e.home request.to ≡ Ok addr → addr ≡ Local segments → spot ≡ spot_of segments e.nodes
    → reply ≡ (spot_effect e request spot).reply → after ≡ (spot_effect e request spot).after → Occurs event e (Done reply) after
here_occurs event e after request addr segments spot reply asks heard addressed here named told left =
    let stays = sym (stays_here e request addr segments here) in
    subst (λ (v : Event). Occurs v e (Done reply) after) (sym asks)
    (heard_answers e after request addr (Done reply) heard addressed
    (ap Done told
    ∙ ap (λ (s : Option Spot). Done (spot_effect e request s).reply) named
    ∙ ap (λ (x : EventEffect). x.outcome) stays)
    (left
    ∙ ap (λ (s : Option Spot). (spot_effect e request s).after) named
    ∙ ap (λ (x : EventEffect). x.after) stays))

-- ---- as a step

-- what answers it on what is left is a step
answered_step : (reading : ℕ) (request : RequestParts) (before after : EntityData) (outcome : Outcome) → IsAnswered (swept reading before) request outcome after → Step reading (Ask request) before outcome after
answered_step reading request before after (Done reply) answered = answered
answered_step reading request before after (Forward poa onward) answered = answered
answered_step reading request before after (Item given) answered = absurd answered
answered_step reading request before after Ticked answered = absurd answered
answered_step reading request before after (Starved done) answered = inl answered

-- where memory runs out in the expiry, that is a step of any event
pub unswept_step : (reading : ℕ) (event : Event) (before after : EntityData) → IsUnswept reading before 0 after → Step reading event before (Starved 0) after
unswept_step reading (Ask request) before after unswept = inr unswept
unswept_step reading Take before after unswept = unswept
unswept_step reading Tick before after unswept = unswept

-- so what an event gives on what is left is a step
pub occurs_step : (reading : ℕ) (event : Event) (before after : EntityData) (outcome : Outcome) → Occurs event (swept reading before) outcome after → Step reading event before outcome after
occurs_step reading (Ask request) before after outcome occurs =
    answered_step reading request before after outcome occurs
occurs_step reading Take before after (Done reply) occurs = absurd occurs
occurs_step reading Take before after (Forward poa onward) occurs = absurd occurs
occurs_step reading Take before after (Item given) occurs = occurs
occurs_step reading Take before after Ticked occurs = absurd occurs
occurs_step reading Take before after (Starved done) occurs = absurd occurs
occurs_step reading Tick before after (Done reply) occurs = absurd occurs
occurs_step reading Tick before after (Forward poa onward) occurs = absurd occurs
occurs_step reading Tick before after (Item given) occurs = absurd occurs
occurs_step reading Tick before after Ticked occurs = occurs
occurs_step reading Tick before after (Starved done) occurs = absurd occurs
