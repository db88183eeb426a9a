-- The status of a place says that the request wasn't served.
use Rattle.std.proofs.Common.{◌≡◌, ℕ, List, [], ◌∷◌, Bool, true, false, not, Option, Some, None, inl, inr, refl, sym, ap, subst}
use Rattle.std.proofs.lemmas.Bool.{cases_Bool, and_parts, not-true}
use Rattle.std.proofs.lemmas.Option.{none-some, same_Some}
use Rattle.std.specs.List.{list_all}
use Rattle.std.specs.Option.{option_map_or}
use Rattle.m2m_names.specs.StatusCodes.{is_success}
use Rattle.m2m_names.specs.declared.codes.Rsc.{Rsc}
use Rattle.m2m_names.specs.declared.codes.Rsc.TheVariants.{NotFound}
use Rattle.m2m_names.specs.declared.operations.Op.{Op}
use Rattle.m2m_names.specs.declared.operations.Op.TheVariants.{Create, Retrieve, Update, Delete, Notify}
use Rattle.m2m_names.specs.declared.types.Ty.{Ty}
use Rattle.primitive_json.specs.declared.request.RequestParts.{RequestParts}
use Rattle.resource_model.specs.Resource.{ResourceData}
use Rattle.tree_model.specs.Tree.{at}
use Rattle.entity_model.specs.Entity.{EntityData}
use Rattle.entity_model.specs.Places.{Check, first_fault}
use Rattle.request_rules.specs.Order.{creation_by, creation_places, fault_at, fault_on, new_places, places}
use Rattle.request_rules.specs.Requests.{child_ty}
use Rattle.request_rules.specs.Rights.{is_subscribing}

abbrev is_refusal : Check → Bool
is_refusal place = not (is_success place.fault)

not_served : (places : List Check) (f : Rsc) → list_all is_refusal places ≡ true → first_fault places ≡ Some f → is_success f ≡ false
not_served [] f all is = absurd (none-some f is)
not_served (place ∷ rest) f all is =
    let both = and_parts (is_refusal place) (list_all is_refusal rest) all in
    elim (cases_Bool place.holds) [
      | inl holds ↦ not_served rest f both.1 (rw holds at is)
      | inr fails ↦ subst (λ (r : Rsc). is_success r ≡ false) (same_Some place.fault f (rw fails at is)) (not-true (is_success place.fault) both.0)
    ]

new_refusals : (op : Op) (e : EntityData) (o : List ℕ) (request : RequestParts) (t : ResourceData) → list_all is_refusal (creation_places op e o request t) ≡ true
new_refusals Create e o request t = by_child (child_ty request)
  where
    by_child : (x : Option Ty) → list_all is_refusal (option_map_or (λ (ty : Ty). new_places (creation_by e o request t ty)) x []) ≡ true
    by_child None = refl
    by_child (Some ty) = refl
new_refusals Retrieve e o request t = refl
new_refusals Update e o request t = refl
new_refusals Delete e o request t = refl
new_refusals Notify e o request t = refl

all_refusals : (op : Op) (e : EntityData) (o : List ℕ) (request : RequestParts) (t : ResourceData) → list_all is_refusal (places op e o request t) ≡ true
all_refusals op e o request t = elim (cases_Bool (is_subscribing request)) [
  | inl subscribes ↦ rw subscribes (new_refusals op e o request t)
  | inr other ↦ rw other (new_refusals op e o request t)
]

fault_refuses : (op : Op) (e : EntityData) (o : List ℕ) (request : RequestParts) (found : Option ResourceData) (f : Rsc) → option_map_or (fault_on op e o request) found (Some NotFound) ≡ Some f → is_success f ≡ false
fault_refuses op e o request None f is = ap is_success (sym (same_Some NotFound f is))
fault_refuses op e o request (Some t) f is = not_served (places op e o request t) f (all_refusals op e o request t) is

-- a status by which a place refuses isn't a success
pub refuses_at : (op : Op) (e : EntityData) (o : List ℕ) (request : RequestParts) (n : ℕ) (f : Rsc) → fault_at op e o request n ≡ Some f → is_success f ≡ false
refuses_at op e o request n f is = fault_refuses op e o request (at n e.nodes) f is
