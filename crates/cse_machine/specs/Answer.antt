-- What a CSE answers a request (TS-0001, 10.2; TS-0004, 7.2 and 7.3.3).
use Rattle.std.specs.Prelude.{◌≡◌, ℕ, nat_lt, Bool, true, false, not, ◌&&◌, List, [], ◌∷◌}
use Rattle.std.specs.Prelude.{Option, Some, None, Result, Ok, Err, is_ok, is_some}
use Rattle.std.specs.Prelude.{bytes_eq, codes, option_and_then}
use Rattle.std.specs.Prelude.{IfOk, OnOk, if◌then◌else◌}
use Rattle.std.specs.Option.{option_map_or}
use Rattle.std.specs.Ordering.{int_eq}
use Rattle.m2m_names.specs.declared.codes.Rsc.TheVariants.{BadRequest, Internal, NonBlocking}
use Rattle.m2m_names.specs.declared.codes.Rsc.TheVariants.{NoPrivilege, NotAllowed, NotReachable}
use Rattle.m2m_names.specs.declared.codes.Rsc.TheVariants.{Ok as Fine}
use Rattle.m2m_names.specs.declared.codes.Rsc.TheVariants.{RequestTimeout}
use Rattle.m2m_names.specs.declared.operations.Op.{Op}
use Rattle.m2m_names.specs.declared.operations.Op.TheVariants.{Create, Retrieve, Update, Delete}
use Rattle.m2m_names.specs.declared.operations.Op.TheVariants.{Notify}
use Rattle.m2m_names.specs.declared.types.Ty.TheVariants.{Ae}
use Rattle.primitive_json.specs.Form.{has_form}
use Rattle.primitive_json.specs.Kinds.{blocking_request}
use Rattle.primitive_json.specs.Members.{creates}
use Rattle.primitive_json.specs.declared.reply.ReplyParts.{ReplyParts}
use Rattle.primitive_json.specs.declared.request.RequestParts.{RequestParts}
use Rattle.primitive_json.specs.declared.request.When.{When}
use Rattle.primitive_json.specs.declared.request.When.TheVariants.{At, Millis}
use Rattle.resource_model.specs.Home.{HomeData}
use Rattle.resource_model.specs.Resource.{ResourceData, is_ty}
use Rattle.tree_model.specs.Tree.{at, has}
use Rattle.addressing.specs.Addresses.{address_of}
use Rattle.addressing.specs.Laws.{spot_named}
use Rattle.addressing.specs.Names.{segments_of, spot_of, spot_resource}
use Rattle.addressing.specs.Short.{short_of}
use Rattle.addressing.specs.declared.addr.Addr.{Addr}
use Rattle.addressing.specs.declared.addr.AddrFault.{AddrFault}
use Rattle.addressing.specs.declared.spot.Spot.{Spot}
use Rattle.addressing.specs.declared.spot.Spot.TheVariants.{Resource, Fan, Poll}
use Rattle.subscription_match.specs.Destinations.{first_url}
use Rattle.entity_model.specs.Entity.{EntityData}
use Rattle.entity_model.specs.Places.{absent, refusal, refused, Effect, reply_alone}
use Rattle.entity_model.specs.Places.{Check, first_fault, reply_to, unless, unless_refused}
use Rattle.retarget.specs.Routes.{forwarded, routed}
use Rattle.retarget.specs.declared.routing.Route.{Route}
use Rattle.retarget.specs.declared.routing.Route.TheVariants as to
use Rattle.retrieve_discover.specs.Polling.{polled}
use Rattle.cse_machine.specs.declared.event.Outcome.{Outcome}
use Rattle.cse_machine.specs.declared.event.Outcome.TheVariants.{Done, Forward}
use Rattle.request_rules.specs.Requests.{child_ty}
use Rattle.request_rules.specs.Rights.{sole}
use Rattle.group_fanout.specs.Fan.{fan_effect_at, rest_of}
use Rattle.group_fanout.specs.Operations.{resource_effect}
use Rattle.group_fanout.specs.Rights.{asking, claimed_originator, has_right}

-- the reply where memory ran out
abbrev pub starved : RequestParts → ReplyParts
starved request = refusal request Internal

-- ---- where a request is refused whatever its address names

-- The request registers an application entity (TS-0001, 10.2.2.2).
abbrev pub is_registration : RequestParts → Bool
is_registration request =
    creates request.op && option_map_or (λ ty. is_ty ty Ae) (child_ty request) false

-- whom it says that asks; only an application entity that registers needs no word of it
abbrev pub said_originator : RequestParts → Option (List ℕ)
said_originator request =
    if is_registration request then Some (asking request) else request.fr

-- The request says who asks, by a text that has a short form (TS-0001, 7.2 and 8.1.2).
abbrev pub has_originator : HomeData → RequestParts → Bool
has_originator home request = is_some (option_and_then (short_of home) (said_originator request))

-- The request is sent to an address (TS-0001, 9.3.1).
abbrev pub has_address : HomeData → RequestParts → Bool
has_address home request = is_ok (address_of home request.to)

-- the expiry is at an earlier moment; milliseconds never pass (TS-0001, 8.1.2)
abbrev pub is_past : ℕ → When → Bool
is_past moment (At at) = nat_lt at moment
is_past moment (Millis n) = false

-- The request has not expired at the entity's moment (TS-0001, 8.1.2).
abbrev pub is_in_time : EntityData → RequestParts → Bool
is_in_time e request = not (option_map_or (is_past e.last) request.rqet false)

-- The request's response type, where one is given, is blockingRequest (TS-0001, 8.2.1; TS-0004,
-- 6.3.4.2.6).
abbrev pub is_blocking : RequestParts → Bool
is_blocking request = option_map_or (λ z. int_eq z blocking_request) request.rt true

-- these places, from the last back to the first: by when and how it is answered; by its address; by
-- its originator; and by its other parameters (TS-0004, 7.3.2.1)
abbrev pub time_places : EntityData → RequestParts → List Check
time_places e request =
    unless (is_in_time e request) RequestTimeout ∷ unless (is_blocking request) NonBlocking ∷ []

-- These places, and before them that the request is sent to an address.
abbrev pub address_places : EntityData → RequestParts → List Check
address_places e request =
    unless (has_address e.home request) BadRequest ∷ time_places e request

-- These places, and before them that the request says who asks.
abbrev pub originator_places : EntityData → RequestParts → List Check
originator_places e request =
    unless (has_originator e.home request) BadRequest ∷ address_places e request

-- All places before the address is resolved, in order: these, and before them that the request's
-- parameters are of their kinds (TS-0004, 7.3.3).
abbrev pub first_places : EntityData → RequestParts → List Check
first_places e request = unless (has_form request) BadRequest ∷ originator_places e request

-- ---- one request to an address here

-- the resource at what an address names
abbrev pub resource_at : List ResourceData → Spot → Option ResourceData
resource_at nodes spot = option_and_then (λ n. at n nodes) (spot_resource spot)

-- what the address of a request names here
abbrev pub spot_asked : EntityData → RequestParts → Option Spot
spot_asked e request = spot_named e.home request.to e.nodes

-- the resource that an address names (TS-0001, 9.3.1)
abbrev pub addressed : EntityData → List ℕ → Option ResourceData
addressed e to = option_and_then (resource_at e.nodes) (spot_named e.home to e.nodes)

-- ---- one request to a poll point

-- what isn't done there: that comes behind the right that the request needs on the channel
abbrev pub poll_refusal : EntityData → RequestParts → ℕ → Effect
poll_refusal e request channel =
    refused e request (if has_right e request channel then NotAllowed else NoPrivilege)

-- The content of the request is the answer to a request that was polled: an object whose only
-- member is a response (TS-0001, 9.6.22).
abbrev pub has_answer : RequestParts → Bool
has_answer request =
    option_map_or (λ e. bytes_eq e.0 (codes "m2m:rsp")) (option_and_then sole request.pc) false

-- the places of such an answer: for want of the right, then by its content
abbrev pub answer_places : EntityData → RequestParts → ℕ → List Check
answer_places e request channel =
    unless (has_right e request channel) NoPrivilege ∷ unless (has_answer request) BadRequest ∷ []

-- what comes of it where it isn't refused: it is taken, and isn't kept (the profile's)
abbrev pub answered_poll : EntityData → RequestParts → ℕ → Effect
answered_poll e request channel =
    unless_refused (answer_places e request channel) e request
    (reply_alone e (reply_to request Fine None))

-- what an operation gives at the poll point of the channel of a number: a Retrieve polls it, a
-- Notify answers what was polled, and no other is done there (TS-0001, 9.6.22)
abbrev pub poll_effect : Op → EntityData → RequestParts → ℕ → Effect
poll_effect Create e request channel = poll_refusal e request channel
poll_effect Retrieve e request channel =
    polled e (claimed_originator e.home request) request channel
poll_effect Update e request channel = poll_refusal e request channel
poll_effect Delete e request channel = poll_refusal e request channel
poll_effect Notify e request channel = answered_poll e request channel

-- what a request gives at what its address names here. That this is nothing comes before any right.
abbrev pub spot_effect : EntityData → RequestParts → Option Spot → Effect
spot_effect e request None = refused e request absent
spot_effect e request (Some (Resource n)) = resource_effect e request (at n e.nodes)
spot_effect e request (Some (Fan group place)) =
    fan_effect_at e request (rest_of e.home request.to place) group
spot_effect e request (Some (Poll channel)) =
    if has channel e.nodes then poll_effect request.op e request channel
    else refused e request absent

-- ---- one request to any address

-- what comes of an event: its outcome, and the entity after it
pub record EventEffect : Type 0 where
  pub outcome : Outcome
  pub after : EntityData

-- This comes of an event, unless memory runs out: the outcome, and the entity that is left.
pub record ComesToOutcome {E : Type 0} (result : Result Outcome E) (left : EntityData)
    (effect : EventEffect) : Type 0 where
  pub outcome : IfOk result (λ x. x ≡ effect.outcome)
  pub after : OnOk result (left ≡ effect.after)

-- The effect of an operation as that of an event: its outcome is a reply.
abbrev pub as_done : Effect → EventEffect
as_done effect = record { outcome = Done effect.reply; after = effect.after }

-- the first URL among the points of access of the resource of a number
abbrev pub point_of : List ResourceData → ℕ → Option (List ℕ)
point_of nodes n = option_and_then first_url (at n nodes)

-- The request goes on to the CSE at a URL: by its originator in full form, and with nothing said of
-- how the reply is wanted. It changes nothing, and no right is judged here (TS-0001, 10.2.2).
abbrev pub goes_on : EntityData → RequestParts → List ℕ → EventEffect
goes_on e request poa = record {
  outcome = Forward poa (forwarded e.home (claimed_originator e.home request) request);
  after = e;
}

-- What it gives by the point of access of the CSE that it goes on to.
abbrev pub onward_effect : EntityData → RequestParts → Option (List ℕ) → EventEffect
onward_effect e request poa =
    option_map_or (goes_on e request) poa (as_done (refused e request NotReachable))

-- what a request gives by where it goes, which is judged before anything is looked up here: it
-- stays here; it goes on to a registered CSE; or that isn't known, or isn't reached
abbrev pub route_effect : EntityData → RequestParts → List (List ℕ) → Route → EventEffect
route_effect e request segments to.Local =
    as_done (spot_effect e request (spot_of segments e.nodes))
route_effect e request segments to.Unknown = as_done (refused e request absent)
route_effect e request segments to.NoHop = as_done (refused e request NotReachable)
route_effect e request segments to.NoPoint = as_done (refused e request NotReachable)
route_effect e request segments (to.Forward n) = onward_effect e request (point_of e.nodes n)

-- what it gives by its address, where it is sent to one (TS-0001, 7.2 and 10.2.2)
abbrev pub address_effect : EntityData → RequestParts → Result Addr AddrFault → EventEffect
address_effect e request (Ok addr) =
    route_effect e request (segments_of addr)
    (routed e.nodes (claimed_originator e.home request) addr)
address_effect e request (Err fault) = as_done (refused e request BadRequest)

-- what comes of a request by its address, unless one of these places refuses it
abbrev pub judged_effect : List Check → EntityData → RequestParts → Result Addr AddrFault
    → EventEffect
judged_effect places e request address =
    option_map_or (λ fault. as_done (refused e request fault)) (first_fault places)
    (address_effect e request address)

-- what comes of a request to an entity from which what is due is gone
abbrev pub effect_of : EntityData → RequestParts → EventEffect
effect_of e request =
    judged_effect (first_places e request) e request (address_of e.home request.to)

-- The outcome and the entity after are those that the request gives.
abbrev pub ComesOf : EntityData → RequestParts → Outcome → EntityData → Type 0
ComesOf e request outcome after =
    (outcome ≡ (effect_of e request).outcome) × (after ≡ (effect_of e request).after)
