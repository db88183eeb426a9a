-- An operation leaves the home of the entity as it is.
use Rattle.std.proofs.Common.{◌≡◌, ℕ, List, Option, Some, None, Result, Ok, Err, refl}
use Rattle.std.specs.Option.{option_map_or}
use Rattle.m2m_names.specs.declared.codes.Rsc.{Rsc}
use Rattle.m2m_names.specs.declared.codes.Rsc.TheVariants.{BadChild}
use Rattle.m2m_names.specs.declared.operations.Op.{Op}
use Rattle.m2m_names.specs.declared.operations.Op.TheVariants.{Create, Retrieve, Update, Delete, Notify}
use Rattle.m2m_names.specs.declared.types.Ty.{Ty}
use Rattle.primitive_json.specs.declared.request.RequestParts.{RequestParts}
use Rattle.resource_model.specs.Resource.{ResourceData}
use Rattle.tree_model.specs.Tree.{at}
use Rattle.addressing.specs.Addresses.{address_of}
use Rattle.addressing.specs.Names.{spot_of}
use Rattle.addressing.specs.declared.addr.Addr.{Addr}
use Rattle.addressing.specs.declared.addr.Addr.TheVariants.{Local, Foreign, OtherProvider}
use Rattle.addressing.specs.declared.addr.AddrFault.{AddrFault}
use Rattle.addressing.specs.declared.spot.Spot.{Spot}
use Rattle.addressing.specs.declared.spot.Spot.TheVariants.{Resource, Fan, Poll}
use Rattle.entity_model.specs.Entity.{EntityData}
use Rattle.entity_model.specs.Places.{Effect, first_fault, refused}
use Rattle.request_rules.specs.Order.{creation_by, places}
use Rattle.request_rules.specs.Requests.{child_ty}
use Rattle.create_delete.specs.Changing.{create_effect, effect_by}
use Rattle.create_delete.specs.Relaying.{notify_effect}
use Rattle.create_delete.specs.Telling.{told_effect_by}
use Rattle.group_fanout.specs.Fan.{member_effect, member_effect_at, member_effect_by}
use Rattle.group_fanout.specs.Operations.{change_effect, found_effect, operation_effect, relay_effect, resource_effect}
use Rattle.group_fanout.specs.Rights.{claimed_originator}

-- where what is done leaves it, so does a refusal
by_fault : (e : EntityData) (request : RequestParts) (fault : Option Rsc) (x : Effect) → x.after.home ≡ e.home → (option_map_or (refused e request) fault x).after.home ≡ e.home
by_fault e request None x stays = stays
by_fault e request (Some fault) x stays = refl

created_home : (e : EntityData) (o : List ℕ) (request : RequestParts) (t : ResourceData) (ty : Option Ty) → (option_map_or (λ (y : Ty). create_effect request (creation_by e o request t y)) ty (refused e request BadChild)).after.home ≡ e.home
created_home e o request t None = refl
created_home e o request t (Some ty) = refl

effect_home : (op : Op) (e : EntityData) (o : List ℕ) (request : RequestParts) (t : ResourceData) → (effect_by op e o request t).after.home ≡ e.home
effect_home Create e o request t = created_home e o request t (child_ty request)
effect_home Retrieve e o request t = refl
effect_home Update e o request t = refl
effect_home Delete e o request t = refl
effect_home Notify e o request t = refl

changed_home : (op : Op) (e : EntityData) (request : RequestParts) (t : ResourceData) → (change_effect op e request t).after.home ≡ e.home
unfolding change_effect
changed_home op e request t =
    let o = claimed_originator e.home request in
    by_fault e request (first_fault (places op e o request t)) (told_effect_by op e o request t) (effect_home op e o request t)

relayed_home : (e : EntityData) (request : RequestParts) (t : ResourceData) → (relay_effect e request t).after.home ≡ e.home
unfolding relay_effect
relayed_home e request t =
    let o = claimed_originator e.home request in
    by_fault e request (first_fault (places Notify e o request t)) (notify_effect e o request) refl

pub operation_home : (op : Op) (e : EntityData) (request : RequestParts) (t : ResourceData) → (operation_effect op e request t).after.home ≡ e.home
operation_home Create e request t = changed_home Create e request t
operation_home Retrieve e request t = refl
operation_home Update e request t = changed_home Update e request t
operation_home Delete e request t = changed_home Delete e request t
operation_home Notify e request t = relayed_home e request t

pub found_home : (op : Op) (e : EntityData) (request : RequestParts) (found : Option ResourceData) → (found_effect op e request found).after.home ≡ e.home
found_home op e request None = refl
found_home op e request (Some t) = operation_home op e request t

spot_home : (e : EntityData) (request : RequestParts) (spot : Option Spot) → (member_effect_at e request spot).after.home ≡ e.home
spot_home e request None = refl
spot_home e request (Some (Resource n)) = found_home request.op e request (at n e.nodes)
spot_home e request (Some (Fan group rest)) = refl
spot_home e request (Some (Poll channel)) = refl

address_home : (e : EntityData) (request : RequestParts) (a : Result Addr AddrFault) → (member_effect_by e request a).after.home ≡ e.home
address_home e request (Ok (Local segments)) = spot_home e request (spot_of segments e.nodes)
address_home e request (Ok (Foreign address)) = refl
address_home e request (Ok OtherProvider) = refl
address_home e request (Err fault) = refl

pub member_home : (e : EntityData) (request : RequestParts) → (member_effect e request).after.home ≡ e.home
member_home e request = address_home e request (address_of e.home request.to)
