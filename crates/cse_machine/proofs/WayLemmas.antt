-- The ways that a request may take.
use Rattle.std.proofs.Common.{Bool, Err, List, None, Ok, Option, Result, Some, [], ap, cond, false, inl, inr, is_some, map, refl, subst, sym, true, ℕ, ◌∙◌, ◌∷◌, ◌≡◌}
use Rattle.std.proofs.lemmas.Bool.{cases_Bool}
use Rattle.std.specs.Option.{option_and_then, option_map_or}
use Rattle.m2m_names.specs.Name.{is_originator}
use Rattle.m2m_names.specs.StatusCodes.{is_success}
use Rattle.m2m_names.specs.declared.codes.Rsc.{Rsc}
use Rattle.m2m_names.specs.declared.codes.Rsc.TheVariants.{BadRequest, NoPrivilege, NotAllowed, NotFound, NotReachable, RequestTimeout}
use Rattle.m2m_names.specs.declared.codes.Rsc.TheVariants.{Ok as Fine}
use Rattle.m2m_names.specs.declared.operations.Op.{Op}
use Rattle.m2m_names.specs.declared.operations.Op.TheVariants.{Create, Delete, Notify, Retrieve, Update}
use Rattle.primitive_json.specs.Form.{has_form}
use Rattle.primitive_json.specs.declared.note.NoteParts.{NoteParts}
use Rattle.primitive_json.specs.declared.request.RequestParts.{RequestParts}
use Rattle.resource_model.specs.Resource.{ResourceData}
use Rattle.tree_model.proofs.TreeLemmas.{at_number}
use Rattle.tree_model.specs.Tree.{at, has}
use Rattle.policy_eval.specs.Rights.{grants, retrieve_bit}
use Rattle.addressing.specs.Addresses.{address_of}
use Rattle.addressing.specs.Laws.{named_here}
use Rattle.addressing.specs.Names.{spot_of}
use Rattle.addressing.specs.declared.addr.Addr.{Addr}
use Rattle.addressing.specs.declared.addr.Addr.TheVariants.{Foreign, Local, OtherProvider}
use Rattle.addressing.specs.declared.addr.AddrFault.{AddrFault}
use Rattle.addressing.specs.declared.spot.Spot.{Spot}
use Rattle.addressing.specs.declared.spot.Spot.TheVariants.{Fan, Poll, Resource}
use Rattle.subscription_match.specs.Destinations.{cse_named, first_url}
use Rattle.retarget.specs.Routes.{comes_from_cse, routed_to}
use Rattle.retarget.specs.declared.routing.Route.TheVariants as to
use Rattle.entity_model.specs.Entity.{EntityData}
use Rattle.entity_model.specs.Places.{Effect, first_fault, on_found, refused, reply_alone, reply_to, unless}
use Rattle.retrieve_discover.specs.Polling.{first_waiting, handed_on, without_waiting}
use Rattle.retrieve_discover.specs.Replies.{success}
use Rattle.group_fanout.specs.Fan.{fan_effect, fanned, is_fanned, listed_members, may_fan, member_requests, requests_to, rest_of, with_rest}
use Rattle.group_fanout.specs.Operations.{operation_effect, resource_effect}
use Rattle.group_fanout.specs.Rights.{claimed_originator, has_right}
use Rattle.cse_machine.proofs.JudgedLemmas.{heard_effect, is_heard, judged, refused_effect, turned_down}
use Rattle.cse_machine.proofs.PlaceLemmas.{claimed_valid}
use Rattle.cse_machine.specs.Answer.{EventEffect, address_effect, addressed, as_done, effect_of, goes_on, has_address, has_answer, has_originator, is_blocking, is_in_time, onward_effect, point_of, poll_effect, resource_at, route_effect, spot_asked, spot_effect}

-- ---- a request

-- it is refused, and so nothing changes
abbrev pub IsRefused : EntityData → RequestParts → EventEffect → Type 0
IsRefused e request effect = (fault : Rsc) × (is_success fault ≡ false) × (effect ≡ as_done (refused e request fault))

-- it gives what its operation on the resource that its address names gives
pub record IsOperated (e : EntityData) (request : RequestParts) (effect : EventEffect) : Type 0 where
  pub target : ResourceData
  pub there : at target.number e.nodes ≡ Some target
  pub named : addressed e request.to ≡ Some target
  pub spot : spot_asked e request ≡ Some (Resource target.number)
  pub originator : is_originator (claimed_originator e.home request) ≡ true
  pub is : effect ≡ as_done (operation_effect request.op e request target)

-- what a poll of the channel gives that gives a note
abbrev pub given_note : EntityData → RequestParts → ℕ → NoteParts → Effect
given_note e request channel note = record { reply = success request (handed_on note); after = without_waiting channel e }

-- it polls a channel by RETRIEVE, and is given the first item that waits for it
pub record IsPolled (e : EntityData) (request : RequestParts) (effect : EventEffect) : Type 0 where
  pub channel : ℕ
  pub note : NoteParts
  pub spot : spot_asked e request ≡ Some (Poll channel)
  pub op : request.op ≡ Retrieve
  pub right : grants e.home e.nodes (claimed_originator e.home request) retrieve_bit channel ≡ true
  pub first : first_waiting channel e ≡ Some note
  pub is : effect ≡ as_done (given_note e request channel note)

-- what the answer of who polled gives that is taken
abbrev pub taken_answer : EntityData → RequestParts → Effect
taken_answer e request = reply_alone e (reply_to request Fine None)

-- it is such an answer at the poll point of a channel, by NOTIFY
pub record IsTaken (e : EntityData) (request : RequestParts) (effect : EventEffect) : Type 0 where
  pub channel : ℕ
  pub spot : spot_asked e request ≡ Some (Poll channel)
  pub op : request.op ≡ Notify
  pub right : has_right e request channel ≡ true
  pub is : effect ≡ as_done (taken_answer e request)

-- the addresses of the members of a group, with what stands behind the fan-out point at this place
abbrev pub member_addresses : EntityData → RequestParts → ℕ → ResourceData → List (List ℕ)
member_addresses e request place group =
    map (with_rest (rest_of e.home request.to place)) (listed_members group)

-- what a fan-out to them gives that isn't refused
abbrev pub fanned_by : EntityData → RequestParts → ℕ → ResourceData → Effect
fanned_by e request place group =
    fanned e request (requests_to request (member_addresses e request place group))

-- it is fanned out to the members of the group at whose fan-out point it is
pub record IsFanned (e : EntityData) (request : RequestParts) (effect : EventEffect) : Type 0 where
  pub group : ResourceData
  pub place : ℕ
  pub there : at group.number e.nodes ≡ Some group
  pub spot : spot_asked e request ≡ Some (Fan group.number place)
  pub right : may_fan e request group.number ≡ true
  pub op : is_fanned request.op ≡ true
  pub originator : is_originator (claimed_originator e.home request) ≡ true
  pub is : effect ≡ as_done (fanned_by e request place group)

-- it goes on to the CSE at a URL
pub record GoesOn (e : EntityData) (request : RequestParts) (effect : EventEffect) : Type 0 where
  pub poa : List ℕ
  pub is : effect ≡ goes_on e request poa

-- the ways of a request
pub data Way (e : EntityData) (request : RequestParts) (effect : EventEffect) : Type 0 where
  refuses : IsRefused e request effect → Way e request effect
  operates : IsOperated e request effect → Way e request effect
  polls : IsPolled e request effect → Way e request effect
  answers : IsTaken e request effect → Way e request effect
  fans : IsFanned e request effect → Way e request effect
  leaves : GoesOn e request effect → Way e request effect

module _ (e : EntityData) (request : RequestParts) where
  refuses_by : (fault : Rsc) → is_success fault ≡ false → Way e request (as_done (refused e request fault))
  refuses_by fault other = refuses (fault, other, refl)

  -- what isn't done at a poll point is refused
  poll_refused : (b : Bool) → Way e request (as_done (refused e request (cond b NotAllowed NoPrivilege)))
  poll_refused true = refuses_by NotAllowed refl
  poll_refused false = refuses_by NoPrivilege refl

  on_note : (channel : ℕ) (note : Option NoteParts) → first_waiting channel e ≡ note → spot_asked e request ≡ Some (Poll channel) → request.op ≡ Retrieve → grants e.home e.nodes (claimed_originator e.home request) retrieve_bit channel ≡ true → Way e request (as_done (option_map_or (given_note e request channel) note (refused e request RequestTimeout)))
  on_note channel None none is op right = refuses_by RequestTimeout refl
  on_note channel (Some note) first is op right =
      polls (record { channel = channel; note = note; spot = is; op = op; right = right; first = first; is = refl })

  -- an answer is refused, or taken
  on_answer : (channel : ℕ) (right has : Bool) → spot_asked e request ≡ Some (Poll channel) → request.op ≡ Notify → has_right e request channel ≡ right → Way e request (as_done (option_map_or (refused e request) (first_fault (unless right NoPrivilege ∷ unless has BadRequest ∷ [])) (taken_answer e request)))
  on_answer channel false has is op right = refuses_by NoPrivilege refl
  on_answer channel true false is op right = refuses_by BadRequest refl
  on_answer channel true true is op right =
      answers (record { channel = channel; spot = is; op = op; right = right; is = refl })

  on_poll : (channel : ℕ) (op : Op) → spot_asked e request ≡ Some (Poll channel) → request.op ≡ op → Way e request (as_done (poll_effect op e request channel))
  on_poll channel Create is op = poll_refused (has_right e request channel)
  on_poll channel Retrieve is op = elim (cases_Bool (grants e.home e.nodes (claimed_originator e.home request) retrieve_bit channel)) [
    | inl t ↦ rw t (on_note channel (first_waiting channel e) refl is op t)
    | inr f ↦ rw f (refuses_by NoPrivilege refl)
  ]
  on_poll channel Update is op = poll_refused (has_right e request channel)
  on_poll channel Delete is op = poll_refused (has_right e request channel)
  on_poll channel Notify is op = on_answer channel (has_right e request channel) (has_answer request) is op refl

  on_resource : (n : ℕ) (found : Option ResourceData) → has_originator e.home request ≡ true → spot_asked e request ≡ Some (Resource n) → at n e.nodes ≡ found → Way e request (as_done (resource_effect e request found))
  on_resource n None by is found = refuses_by NotFound refl
  on_resource n (Some r) by is found = operates (record {
    target = r;
    there = ap (λ (m : ℕ). at m e.nodes) (at_number n e.nodes r found) ∙ found;
    named = ap (option_and_then (resource_at e.nodes)) is ∙ found;
    spot = is ∙ ap (λ (m : ℕ). Some (Resource m)) (sym (at_number n e.nodes r found));
    originator = claimed_valid e.home request by;
    is = refl;
  })

  -- a fan-out is refused, or done
  on_group : (place : ℕ) (g : ResourceData) (right does : Bool) → has_originator e.home request ≡ true → spot_asked e request ≡ Some (Fan g.number place) → at g.number e.nodes ≡ Some g → may_fan e request g.number ≡ right → is_fanned request.op ≡ does → Way e request (as_done (option_map_or (refused e request) (first_fault (unless right NoPrivilege ∷ unless does NotAllowed ∷ [])) (fanned e request (member_requests request (rest_of e.home request.to place) g))))
  on_group place g false does by is there right op = refuses_by NoPrivilege refl
  on_group place g true false by is there right op = refuses_by NotAllowed refl
  on_group place g true true by is there right op = fans (record {
    group = g;
    place = place;
    there = there;
    spot = is;
    right = right;
    op = op;
    originator = claimed_valid e.home request by;
    is = refl;
  })

  on_fan : (n place : ℕ) (found : Option ResourceData) → has_originator e.home request ≡ true → spot_asked e request ≡ Some (Fan n place) → at n e.nodes ≡ found → Way e request (as_done (on_found e request (fan_effect e request (rest_of e.home request.to place)) found))
  on_fan n place None by is found = refuses_by NotFound refl
  on_fan n place (Some g) by is found =
      let number = at_number n e.nodes g found in
      on_group place g (may_fan e request g.number) (is_fanned request.op) by
      (is ∙ ap (λ (m : ℕ). Some (Fan m place)) (sym number)) (ap (λ (m : ℕ). at m e.nodes) number ∙ found) refl refl

  on_spot : (spot : Option Spot) → has_originator e.home request ≡ true → spot_asked e request ≡ spot → Way e request (as_done (spot_effect e request spot))
  on_spot None by is = refuses_by NotFound refl
  on_spot (Some (Resource n)) by is = on_resource n (at n e.nodes) by is refl
  on_spot (Some (Fan n place)) by is = on_fan n place (at n e.nodes) by is refl
  on_spot (Some (Poll channel)) by is = elim (cases_Bool (has channel e.nodes)) [
    | inl t ↦ rw t (on_poll channel request.op is refl)
    | inr f ↦ rw f (refuses_by NotFound refl)
  ]

  -- to another CSE it goes on, or is refused
  on_point : (poa : Option (List ℕ)) → Way e request (onward_effect e request poa)
  on_point None = refuses_by NotReachable refl
  on_point (Some poa) = leaves (record { poa = poa; is = refl })

  on_cse : (cse : ResourceData) (far some : Bool) → Way e request (route_effect e request [] (cond far to.NoHop (cond some (to.Forward cse.number) to.NoPoint)))
  on_cse cse true some = refuses_by NotReachable refl
  on_cse cse false false = refuses_by NotReachable refl
  on_cse cse false true = on_point (point_of e.nodes cse.number)

  elsewhere : (cse : Option ResourceData) → Way e request (route_effect e request [] (option_map_or (routed_to e.nodes (claimed_originator e.home request)) cse to.Unknown))
  elsewhere None = refuses_by NotFound refl
  elsewhere (Some cse) = on_cse cse (comes_from_cse e.nodes (claimed_originator e.home request)) (is_some (first_url cse))

  by_address : (a : Result Addr AddrFault) → has_originator e.home request ≡ true → address_of e.home request.to ≡ a → Way e request (address_effect e request a)
  by_address (Ok (Local segments)) by is = on_spot (spot_of segments e.nodes) by (ap (λ (a : Result Addr AddrFault). named_here a e.nodes) is)
  by_address (Ok (Foreign text)) by is = elsewhere (cse_named text e.nodes)
  by_address (Ok OtherProvider) by is = refuses_by NotFound refl
  by_address (Err fault) by is = refuses_by BadRequest refl

  abbrev address_is : Result Addr AddrFault
  address_is = address_of e.home request.to

  -- where no place refuses it, it goes by its address
  pub heard : has_form request ≡ true → has_originator e.home request ≡ true → has_address e.home request ≡ true → is_in_time e request ≡ true → is_blocking request ≡ true → effect_of e request ≡ address_effect e request address_is
  heard k o a t b = rw (k, o, a, t, b) refl

  pub way_of : Way e request (effect_of e request)
  way_of = elim (judged e request) [
    | turned_down fault other is ↦ refuses (fault, other, refused_effect e request fault is)
    | is_heard none facts ↦ subst (Way e request) (sym (heard_effect e request none)) (by_address address_is facts.originator refl)
  ]
