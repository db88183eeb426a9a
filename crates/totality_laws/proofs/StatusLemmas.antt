-- Each reply that a CSE gives itself has a status that is named.
use Rattle.std.specs.Prelude.{⊤}
use Rattle.std.proofs.Common.{◌≡◌, ℕ, ◌∷◌, Bool, true, false, List, [], Option, Some, None, Result, Ok, Err, inl, inr, refl, sym, ap, ◌∙◌, subst, IsTrue}
use Rattle.std.proofs.lemmas.Bool.{and_parts, cases_Bool}
use Rattle.std.proofs.lemmas.Option.{same_Some}
use Rattle.std.specs.List.{list_all}
use Rattle.std.specs.Option.{option_map_or}
use Rattle.m2m_names.specs.declared.codes.Rsc.{Rsc}
use Rattle.m2m_names.specs.declared.codes.Rsc.TheVariants.{Ok as Fine}
use Rattle.m2m_names.specs.declared.operations.Op.{Op}
use Rattle.m2m_names.specs.declared.operations.Op.TheVariants.{Create, Retrieve, Update, Delete, Notify}
use Rattle.m2m_names.specs.declared.types.Ty.{Ty}
use Rattle.primitive_json.specs.declared.note.NoteParts.{NoteParts}
use Rattle.primitive_json.specs.declared.request.RequestParts.{RequestParts}
use Rattle.resource_model.specs.Resource.{ResourceData}
use Rattle.policy_eval.specs.Rights.{grants}
use Rattle.tree_model.specs.Tree.{at, has}
use Rattle.addressing.specs.Addresses.{address_of}
use Rattle.addressing.specs.Names.{segments_of, spot_of}
use Rattle.addressing.specs.declared.addr.Addr.{Addr}
use Rattle.addressing.specs.declared.addr.Addr.TheVariants.{Local, Foreign, OtherProvider}
use Rattle.addressing.specs.declared.addr.AddrFault.{AddrFault}
use Rattle.addressing.specs.declared.spot.Spot.{Spot}
use Rattle.addressing.specs.declared.spot.Spot.TheVariants.{Resource, Fan, Poll}
use Rattle.entity_model.specs.Entity.{EntityData, swept}
use Rattle.entity_model.specs.Places.{Check, Effect, first_fault, on_found, reading_bit, refused, reply_alone, reply_to, unless_refused}
use Rattle.request_rules.specs.Order.{creation_by, creation_places, new_places, places}
use Rattle.request_rules.specs.Requests.{child_ty}
use Rattle.request_rules.specs.Rights.{is_discovery, is_subscribing}
use Rattle.retarget.specs.Routes.{routed}
use Rattle.retarget.specs.declared.routing.Route.{Route}
use Rattle.retarget.specs.declared.routing.Route.TheVariants as to
use Rattle.retrieve_discover.specs.Conditions.{meets_any}
use Rattle.retrieve_discover.specs.Polling.{first_waiting, given_first, polled}
use Rattle.retrieve_discover.specs.Replies.{discovered, retrieved, retrieved_of}
use Rattle.create_delete.specs.Changing.{effect_by}
use Rattle.create_delete.specs.Relaying.{notify_effect}
use Rattle.create_delete.specs.Telling.{told_effect_by}
use Rattle.group_fanout.specs.Fan.{fan_effect, fan_places, fanned, member_effect, member_effect_at, member_effect_by, member_requests, rest_of}
use Rattle.group_fanout.specs.Operations.{change_effect, operation_effect, reading_reply, relay_effect, resource_effect}
use Rattle.group_fanout.specs.Rights.{claimed_originator, has_right}
use Rattle.cse_machine.specs.declared.event.Outcome.{Outcome}
use Rattle.cse_machine.specs.declared.event.Outcome.TheVariants.{Done, Forward, Item, Ticked, Starved}
use Rattle.cse_machine.specs.Answer.{EventEffect, address_effect, answer_places, as_done, effect_of, first_places, onward_effect, point_of, poll_effect, poll_refusal, route_effect, spot_effect}
use Rattle.totality_laws.specs.Statuses.{MembersAreAnsweredByName, StepsAreAnsweredByName, is_named}

-- ---- what is refused by places

-- the reply has a status that is named
abbrev IsNamed : Effect → Type 0
IsNamed effect = IsTrue (is_named effect.reply.rsc)

-- each of the places has one
abbrev have_names : List Check → Bool
have_names ps = list_all (λ (c : Check). is_named c.fault) ps

first_named : (ps : List Check) (fault : Rsc) → have_names ps ≡ true → first_fault ps ≡ Some fault → is_named fault ≡ true
first_named [] fault all is = absurd (let none : None ≡ Some fault = is in cc)
first_named (c ∷ cs) fault all is = elim (cases_Bool c.holds) [
  | inl t ↦ first_named cs fault (and_parts (is_named c.fault) (have_names cs) all).1 (rw t at is)
  | inr f ↦
      let told : Some c.fault ≡ Some fault = rw f at is in
      ap is_named (sym (same_Some c.fault fault told)) ∙ (and_parts (is_named c.fault) (have_names cs) all).0
]

refused_named : (ps : List Check) (e : EntityData) (request : RequestParts) (effect : Effect) → have_names ps ≡ true → IsNamed effect → IsNamed (unless_refused ps e request effect)
refused_named ps e request effect all done = by (first_fault ps) refl
  where
    by : (o : Option Rsc) → first_fault ps ≡ o → IsNamed (option_map_or (refused e request) o effect)
    by None is = done
    by (Some fault) is = first_named ps fault all is

found_named : (e : EntityData) (request : RequestParts) (effect : ResourceData → Effect) (found : Option ResourceData) → ((r : ResourceData) → IsNamed (effect r)) → IsNamed (on_found e request effect found)
found_named e request effect None named = refl
found_named e request effect (Some r) named = named r

-- ---- an operation on a resource

creation_named : (op : Op) (e : EntityData) (o : List ℕ) (request : RequestParts) (r : ResourceData) → have_names (creation_places op e o request r) ≡ true
creation_named Create e o request r = by (child_ty request)
  where
    by : (t : Option Ty) → have_names (option_map_or (λ ty. new_places (creation_by e o request r ty)) t []) ≡ true
    by None = refl
    by (Some ty) = refl
creation_named Retrieve e o request r = refl
creation_named Update e o request r = refl
creation_named Delete e o request r = refl
creation_named Notify e o request r = refl

places_named : (op : Op) (e : EntityData) (o : List ℕ) (request : RequestParts) (r : ResourceData) → have_names (places op e o request r) ≡ true
places_named op e o request r = elim (cases_Bool (is_subscribing request)) [
  | inl t ↦ rw t (creation_named op e o request r)
  | inr f ↦ rw f (creation_named op e o request r)
]

done_named : (op : Op) (e : EntityData) (o : List ℕ) (request : RequestParts) (r : ResourceData) → IsNamed (effect_by op e o request r)
done_named Create e o request r = by (child_ty request) refl
  where
    by : (t : Option Ty) → child_ty request ≡ t → IsNamed (effect_by Create e o request r)
    by None is = rw is refl
    by (Some ty) is = rw is refl
done_named Retrieve e o request r = refl
done_named Update e o request r = refl
done_named Delete e o request r = refl
done_named Notify e o request r = refl

change_named : (op : Op) (e : EntityData) (request : RequestParts) (r : ResourceData) → IsNamed (change_effect op e request r)
unfolding change_effect
change_named op e request r =
    let o = claimed_originator e.home request in
    refused_named (places op e o request r) e request (told_effect_by op e o request r) (places_named op e o request r) (done_named op e o request r)

relay_named : (e : EntityData) (request : RequestParts) (r : ResourceData) → IsNamed (relay_effect e request r)
unfolding relay_effect
relay_named e request r =
    let o = claimed_originator e.home request in
    refused_named (places Notify e o request r) e request (notify_effect e o request) (places_named Notify e o request r) refl

discovery_named : (e : EntityData) (o : List ℕ) (request : RequestParts) (n : ℕ) → is_named (discovered e.home e.nodes o request n).rsc ≡ true
discovery_named e o request n = elim (cases_Bool (grants e.home e.nodes o (reading_bit true) n)) [
  | inl t ↦ rw t refl
  | inr f ↦ rw f refl
]

shown_named : (e : EntityData) (o : List ℕ) (request : RequestParts) (r : ResourceData) → is_named (retrieved_of e.home e.nodes o request r).rsc ≡ true
shown_named e o request r = elim (cases_Bool (grants e.home e.nodes o (reading_bit false) r.number)) [
  | inl t ↦ elim (cases_Bool (meets_any e.nodes request.fc r)) [
    | inl m ↦ rw (t, m) refl
    | inr m ↦ rw (t, m) refl
  ]
  | inr f ↦ rw f refl
]

retrieve_named : (e : EntityData) (o : List ℕ) (request : RequestParts) (n : ℕ) → is_named (retrieved e.home e.nodes o request n).rsc ≡ true
retrieve_named e o request n = by (at n e.nodes) refl
  where
    by : (found : Option ResourceData) → at n e.nodes ≡ found → is_named (retrieved e.home e.nodes o request n).rsc ≡ true
    by None is = rw is refl
    by (Some r) is = rw is (shown_named e o request r)

reading_named : (e : EntityData) (request : RequestParts) (n : ℕ) → is_named (reading_reply e request n).rsc ≡ true
reading_named e request n = elim (cases_Bool (is_discovery request)) [
  | inl t ↦ rw t (discovery_named e (claimed_originator e.home request) request n)
  | inr f ↦ rw f (retrieve_named e (claimed_originator e.home request) request n)
]

operation_named : (op : Op) (e : EntityData) (request : RequestParts) (r : ResourceData) → IsNamed (operation_effect op e request r)
operation_named Create e request r = change_named Create e request r
operation_named Retrieve e request r = reading_named e request r.number
operation_named Update e request r = change_named Update e request r
operation_named Delete e request r = change_named Delete e request r
operation_named Notify e request r = relay_named e request r

resource_named : (e : EntityData) (request : RequestParts) (found : Option ResourceData) → IsNamed (resource_effect e request found)
resource_named e request found = found_named e request (operation_effect request.op e request) found (operation_named request.op e request)

-- ---- a member of a fan-out

spot_member_named : (e : EntityData) (request : RequestParts) (spot : Option Spot) → IsNamed (member_effect_at e request spot)
spot_member_named e request None = refl
spot_member_named e request (Some (Resource n)) = resource_named e request (at n e.nodes)
spot_member_named e request (Some (Fan group rest)) = refl
spot_member_named e request (Some (Poll channel)) = refl

member_named : (e : EntityData) (request : RequestParts) (address : Result Addr AddrFault) → IsNamed (member_effect_by e request address)
member_named e request (Ok (Local segments)) = spot_member_named e request (spot_of segments e.nodes)
member_named e request (Ok (Foreign address)) = refl
member_named e request (Ok OtherProvider) = refl
member_named e request (Err fault) = refl

pub members_named : MembersAreAnsweredByName
members_named e [] = tt
members_named e (request ∷ requests) =
    (member_named e request (address_of e.home request.to), members_named (member_effect e request).after requests)

-- ---- what an address names

fan_named : (e : EntityData) (request : RequestParts) (rest : List (List ℕ)) (group : ResourceData) → IsNamed (fan_effect e request rest group)
fan_named e request rest group =
    refused_named (fan_places e request group) e request (fanned e request (member_requests request rest group)) refl refl

not_polled : (e : EntityData) (request : RequestParts) (channel : ℕ) → IsNamed (poll_refusal e request channel)
not_polled e request channel = elim (cases_Bool (has_right e request channel)) [
  | inl t ↦ rw t refl
  | inr f ↦ rw f refl
]

given_named : (e : EntityData) (request : RequestParts) (channel : ℕ) → IsNamed (given_first channel e request)
given_named e request channel = by (first_waiting channel e) refl
  where
    by : (o : Option NoteParts) → first_waiting channel e ≡ o → IsNamed (given_first channel e request)
    by None is = rw is refl
    by (Some note) is = rw is refl

polled_named : (e : EntityData) (o : List ℕ) (request : RequestParts) (channel : ℕ) → IsNamed (polled e o request channel)
polled_named e o request channel = elim (cases_Bool (grants e.home e.nodes o (reading_bit false) channel)) [
  | inl t ↦ rw t (given_named e request channel)
  | inr f ↦ rw f refl
]

poll_named : (op : Op) (e : EntityData) (request : RequestParts) (channel : ℕ) → IsNamed (poll_effect op e request channel)
poll_named Create e request channel = not_polled e request channel
poll_named Retrieve e request channel = polled_named e (claimed_originator e.home request) request channel
poll_named Update e request channel = not_polled e request channel
poll_named Delete e request channel = not_polled e request channel
poll_named Notify e request channel = refused_named (answer_places e request channel) e request (reply_alone e (reply_to request Fine None)) refl refl

spot_named : (e : EntityData) (request : RequestParts) (spot : Option Spot) → IsNamed (spot_effect e request spot)
spot_named e request None = refl
spot_named e request (Some (Resource n)) = resource_named e request (at n e.nodes)
spot_named e request (Some (Fan group place)) = found_named e request (fan_effect e request (rest_of e.home request.to place)) (at group e.nodes) (fan_named e request (rest_of e.home request.to place))
spot_named e request (Some (Poll channel)) = elim (cases_Bool (has channel e.nodes)) [
  | inl t ↦ rw t (poll_named request.op e request channel)
  | inr f ↦ rw f refl
]

-- ---- a request to any address

-- what comes of an event is no reply, or one that has a status that is named
abbrev SaysByName : Outcome → Type 0
SaysByName (Done reply) = IsTrue (is_named reply.rsc)
SaysByName (Forward poa onward) = ⊤
SaysByName (Item given) = ⊤
SaysByName Ticked = ⊤
SaysByName (Starved done) = ⊤

onward_named : (e : EntityData) (request : RequestParts) (poa : Option (List ℕ)) → SaysByName (onward_effect e request poa).outcome
onward_named e request None = refl
onward_named e request (Some url) = tt

route_named : (e : EntityData) (request : RequestParts) (segments : List (List ℕ)) (route : Route) → SaysByName (route_effect e request segments route).outcome
route_named e request segments to.Local = spot_named e request (spot_of segments e.nodes)
route_named e request segments to.Unknown = refl
route_named e request segments to.NoHop = refl
route_named e request segments to.NoPoint = refl
route_named e request segments (to.Forward n) = onward_named e request (point_of e.nodes n)

address_named : (e : EntityData) (request : RequestParts) (address : Result Addr AddrFault) → SaysByName (address_effect e request address).outcome
address_named e request (Ok addr) = route_named e request (segments_of addr) (routed e.nodes (claimed_originator e.home request) addr)
address_named e request (Err fault) = refl

judged_named : (e : EntityData) (request : RequestParts) (o : Option Rsc) (effect : EventEffect) → ((fault : Rsc) → o ≡ Some fault → is_named fault ≡ true) → SaysByName effect.outcome → SaysByName (option_map_or (λ fault. as_done (refused e request fault)) o effect).outcome
judged_named e request None effect named done = done
judged_named e request (Some fault) effect named done = named fault refl

request_named : (e : EntityData) (request : RequestParts) → SaysByName (effect_of e request).outcome
request_named e request =
    judged_named e request (first_fault (first_places e request)) (address_effect e request (address_of e.home request.to))
    (λ fault is. first_named (first_places e request) fault refl is)
    (address_named e request (address_of e.home request.to))

pub steps_named : StepsAreAnsweredByName
steps_named reading request before after reply step = subst SaysByName (sym step.0) (request_named (swept reading before) request)
