-- A fan-out: one operation on each member of a group, one after another (TS-0001, 10.2.7; TS-0004,
-- 7.5.2).
use Rattle.std.specs.Prelude.{◌≡◌, ℕ, ◌≤◌, Bool, true, false, List, [], ◌∷◌, ◌++◌, codes, drop}
use Rattle.std.specs.Prelude.{length, map, take, Option, Some, None, Result, Ok, Err}
use Rattle.std.specs.Option.{option_map_or}
use Rattle.m2m_names.specs.Operations.{op_row}
use Rattle.m2m_names.specs.declared.attributes.Attr.TheVariants.{Mid}
use Rattle.m2m_names.specs.declared.codes.Rsc.{Rsc}
use Rattle.m2m_names.specs.declared.codes.Rsc.TheVariants.{NoPrivilege, NotAllowed, NotReachable}
use Rattle.m2m_names.specs.declared.codes.Rsc.TheVariants.{Ok as Fine}
use Rattle.m2m_names.specs.declared.operations.Op.{Op}
use Rattle.m2m_names.specs.declared.operations.Op.TheVariants.{Create, Retrieve, Update, Delete}
use Rattle.m2m_names.specs.declared.operations.Op.TheVariants.{Notify}
use Rattle.m2m_value.specs.Data.{Data, text, list, object, elements_of, pairs_of}
use Rattle.filter_criteria.specs.Values.{object_of}
use Rattle.primitive_json.specs.Members.{name_of_member}
use Rattle.primitive_json.specs.Writing.{reply_rows}
use Rattle.primitive_json.specs.declared.member.Member.TheVariants.{Target}
use Rattle.primitive_json.specs.declared.reply.ReplyParts.{ReplyParts}
use Rattle.primitive_json.specs.declared.request.RequestParts.{RequestParts}
use Rattle.resource_model.specs.Home.{HomeData}
use Rattle.resource_model.specs.Resource.{ResourceData}
use Rattle.policy_eval.specs.Rights.{fan_grants}
use Rattle.policy_eval.specs.Rules.{ids_at, texts_of}
use Rattle.tree_model.specs.Tree.{at}
use Rattle.addressing.specs.Addresses.{address_of, joined}
use Rattle.addressing.specs.Names.{segments_of, spot_of}
use Rattle.addressing.specs.declared.addr.Addr.{Addr}
use Rattle.addressing.specs.declared.addr.Addr.TheVariants.{Local, Foreign, OtherProvider}
use Rattle.addressing.specs.declared.addr.AddrFault.{AddrFault}
use Rattle.addressing.specs.declared.spot.Spot.{Spot}
use Rattle.addressing.specs.declared.spot.Spot.TheVariants.{Resource, Fan, Poll}
use Rattle.entity_model.specs.Entity.{EntityData}
use Rattle.entity_model.specs.Places.{Check, Effect, absent, first_fault, on_found, refused}
use Rattle.entity_model.specs.Places.{reply_to, unless, unless_refused}
use Rattle.group_fanout.specs.Operations.{resource_effect}
use Rattle.group_fanout.specs.Rights.{claimed_originator}

-- ---- whether a request is fanned out

-- The originator has the right for a fan-out to the group of the number: the bit of the operation,
-- by the policies that `macp` names, or by the rules of the group. What the operation needs on a
-- member is judged there (TS-0001, 9.6.13 and 10.2.7.2).
abbrev pub may_fan : EntityData → RequestParts → ℕ → Bool
may_fan e request group =
    fan_grants e.home e.nodes (claimed_originator e.home request) (op_row request.op).bit group

-- Every operation is fanned out but a Notify (the profile's).
abbrev pub is_fanned : Op → Bool
is_fanned Create = true
is_fanned Retrieve = true
is_fanned Update = true
is_fanned Delete = true
is_fanned Notify = false

-- the places of a fan-out: for want of the right, then by its operation
abbrev pub fan_places : EntityData → RequestParts → ResourceData → List Check
fan_places e request group =
    unless (may_fan e request group.number) NoPrivilege
    ∷ unless (is_fanned request.op) NotAllowed ∷ []

-- the status by which a fan-out to the group of a number is refused, where it is
abbrev pub fan_fault_at : EntityData → RequestParts → ℕ → Option Rsc
fan_fault_at e request n =
    option_map_or (λ group. first_fault (fan_places e request group)) (at n e.nodes) (Some absent)

-- ---- the requests to the members

-- the members of a group: the addresses that its `mid` lists, in this order
abbrev pub listed_members : ResourceData → List (List ℕ)
listed_members group = texts_of (ids_at Mid group)

-- the address of a member with the rest behind it
abbrev pub with_rest : List (List ℕ) → List ℕ → List ℕ
with_rest rest member = joined (member ∷ rest)

-- The addresses of the members of the group, each with the rest behind it.
abbrev pub addresses_of : List (List ℕ) → ResourceData → List (List ℕ)
addresses_of rest group = map (with_rest rest) (listed_members group)

-- of the group of a number, if there is one
abbrev pub addresses_at : EntityData → List (List ℕ) → ℕ → List (List ℕ)
addresses_at e rest n = option_map_or (addresses_of rest) (at n e.nodes) []

-- the request, sent to this address instead
abbrev pub sent_to : RequestParts → List ℕ → RequestParts
sent_to request address = record request { to = address }

-- The requests to these addresses.
abbrev pub requests_to : RequestParts → List (List ℕ) → List RequestParts
requests_to request addresses = map (sent_to request) addresses

-- The requests to the members of a group: the same originator, operation and content, to the
-- address of each, with the rest behind it.
abbrev pub member_requests : RequestParts → List (List ℕ) → ResourceData → List RequestParts
member_requests request rest group = requests_to request (addresses_of rest group)

-- the requests that are done: those to the members that the group has as the request finds it,
-- whatever these change; and none where the fan-out is refused
abbrev pub fanned_requests : EntityData → RequestParts → List (List ℕ) → ResourceData
    → List RequestParts
fanned_requests e request rest group =
    option_map_or (λ fault. []) (first_fault (fan_places e request group))
    (member_requests request rest group)

-- of the group of a number, if there is one
abbrev pub fanned_at : EntityData → RequestParts → List (List ℕ) → ℕ → List RequestParts
fanned_at e request rest n = option_map_or (fanned_requests e request rest) (at n e.nodes) []

-- ---- what they give

-- A request to a member is judged as one to a resource. What leads to a fan-out point or to a poll
-- point isn't allowed, and an address that names nothing here is absent.
abbrev pub member_effect_at : EntityData → RequestParts → Option Spot → Effect
member_effect_at e request None = refused e request absent
member_effect_at e request (Some (Resource n)) = resource_effect e request (at n e.nodes)
member_effect_at e request (Some (Fan group rest)) = refused e request NotAllowed
member_effect_at e request (Some (Poll channel)) = refused e request NotAllowed

-- What it gives by where its address leads. A member on another CSE isn't reached, and what is no
-- address names nothing (the profile's).
abbrev pub member_effect_by : EntityData → RequestParts → Result Addr AddrFault → Effect
member_effect_by e request (Ok (Local segments)) =
    member_effect_at e request (spot_of segments e.nodes)
member_effect_by e request (Ok (Foreign address)) = refused e request NotReachable
member_effect_by e request (Ok OtherProvider) = refused e request absent
member_effect_by e request (Err fault) = refused e request absent

-- What a request to a member gives.
abbrev pub member_effect : EntityData → RequestParts → Effect
member_effect e request = member_effect_by e request (address_of e.home request.to)

-- the operation on one member: its request, its reply, and the entity after it
pub record Single : Type 0 where
  pub request : RequestParts
  pub reply : ReplyParts
  pub after : EntityData

-- A request to one member with its reply and the entity after it.
abbrev pub single_of : RequestParts → Effect → Single
single_of request effect = record {
  request = request;
  reply = effect.reply;
  after = effect.after;
}

-- The requests of a fan-out one after another, each to the entity that the one before it left.
abbrev pub singles_of : EntityData → List RequestParts → List Single
singles_of e [] = []
singles_of e (request ∷ requests) =
    single_of request (member_effect e request)
    ∷ singles_of (member_effect e request).after requests

-- the entity that they leave
abbrev pub after_members : EntityData → List RequestParts → EntityData
after_members e [] = e
after_members e (request ∷ requests) =
    after_members (member_effect e request).after requests

-- So many of them have taken effect, one after another, and no other.
pub record IsCutShortAt (e : EntityData) (requests : List RequestParts) (done : ℕ)
    (after : EntityData) : Type 0 where
  pub within : done ≤ length requests
  pub left : after ≡ after_members e (take done requests)

-- ---- the reply

-- what is told of a reply to what was sent to this address: the members of the reply, and `to`
abbrev pub told_of : ReplyParts → List ℕ → Data
told_of reply to = object_of (reply_rows reply ++ (name_of_member Target, Some (text to)) ∷ [])

-- what the reply to a fan-out tells of one operation: its reply, and where it went
abbrev pub gathered_one : Single → Data
gathered_one single = told_of single.reply single.request.to

-- an object of one member
abbrev pub object_with : List ℕ → Data → Data
object_with name d = object (pairs_of ((name, d) ∷ []))

-- the content of a reply that tells these
abbrev pub gathering : List Data → Data
gathering replies =
    object_with (codes "m2m:agr") (object_with (codes "m2m:rsp") (list (elements_of replies)))

-- the content of that reply: the operations one after another
abbrev pub gathered : List Single → Data
gathered singles = gathering (map gathered_one singles)

-- ---- a fan-out

-- what comes of these requests to members, one after another
abbrev pub fanned : EntityData → RequestParts → List RequestParts → Effect
fanned e request requests = record {
  reply = reply_to request Fine (Some (gathered (singles_of e requests)));
  after = after_members e requests;
}

-- what a request to the fan-out point of a group gives: a refusal, or the replies of its members
abbrev pub fan_effect : EntityData → RequestParts → List (List ℕ) → ResourceData → Effect
fan_effect e request rest group =
    unless_refused (fan_places e request group) e request
    (fanned e request (member_requests request rest group))

-- of the group of a number, which is looked up once
abbrev pub fan_effect_at : EntityData → RequestParts → List (List ℕ) → ℕ → Effect
fan_effect_at e request rest n = on_found e request (fan_effect e request rest) (at n e.nodes)

-- ---- at an address

-- the segments of a local address
abbrev pub segments_in : Result Addr AddrFault → List (List ℕ)
segments_in (Ok addr) = segments_of addr
segments_in (Err fault) = []

-- The segments of a local address from this place on, where that is behind a fan-out point.
abbrev pub rest_of : HomeData → List ℕ → ℕ → List (List ℕ)
rest_of home to place = drop place (segments_in (address_of home to))

-- The requests to members that a request is served by: none but at a fan-out point.
abbrev pub served_members : EntityData → RequestParts → Option Spot → List RequestParts
served_members e request None = []
served_members e request (Some (Resource n)) = []
served_members e request (Some (Fan group place)) =
    fanned_at e request (rest_of e.home request.to place) group
served_members e request (Some (Poll channel)) = []
