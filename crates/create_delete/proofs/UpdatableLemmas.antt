-- What holds of an update that no place refuses.
use Rattle.std.proofs.Common.{◌≡◌, ℕ, List, [], true, ◌&&◌, Option, Some, None, unwrap_or, sym, ap, ◌∙◌}
use Rattle.std.proofs.lemmas.Bool.{and_parts}
use Rattle.std.specs.List.{list_all}
use Rattle.std.specs.Option.{option_map_or}
use Rattle.m2m_names.specs.declared.operations.Op.TheVariants.{Update}
use Rattle.m2m_value.specs.Data.{Entry}
use Rattle.primitive_json.specs.declared.request.RequestParts.{RequestParts}
use Rattle.resource_model.specs.Resource.{ResourceData}
use Rattle.tree_model.specs.Tree.{at}
use Rattle.attribute_rules.specs.declared.table.Writing.TheVariants.{Update as Updating}
use Rattle.entity_model.specs.Entity.{EntityData}
use Rattle.entity_model.specs.Places.{Check}
use Rattle.request_rules.specs.Groups.{MembershipData, are_few, have_addresses, membership_edited}
use Rattle.request_rules.specs.Order.{expires_later, fault_on, member_places}
use Rattle.request_rules.specs.Policies.{links_live}
use Rattle.request_rules.specs.Requests.{content_for, named_by}
use Rattle.request_rules.proofs.EditingLemmas.{admitted_for, names_some, sorted_for}
use Rattle.request_rules.proofs.OrderLemmas.{places_parts}
use Rattle.create_delete.specs.Updating.{IsUpdatable}

-- it names attributes
pub updates_attributes : (e : EntityData) (o : List ℕ) (request : RequestParts) (r : ResourceData) → fault_on Update e o request r ≡ None → content_for request r.ty ≡ None → ⊥
updates_attributes e o request r none lacks = names_some Updating request r.ty (places_parts Update e o request r none).content lacks

-- members that no place refuses are few
few_of : (e : EntityData) (m : Option MembershipData) → (have_addresses e.home m && list_all (λ (p : Check). p.holds) (member_places e m)) ≡ true → option_map_or are_few m true ≡ true
few_of e m all =
    let addresses = and_parts (have_addresses e.home m) (list_all (λ (p : Check). p.holds) (member_places e m)) all in
    (and_parts (option_map_or are_few m true) _ addresses.1).0

-- and it may be done
pub updatable : (e : EntityData) (o : List ℕ) (request : RequestParts) (r : ResourceData) (es : List Entry) → fault_on Update e o request r ≡ None → at r.number e.nodes ≡ Some r → content_for request r.ty ≡ Some es → IsUpdatable e es r
updatable e o request r es none there whole =
    let h = places_parts Update e o request r none in
    let names : named_by Update request r ≡ es = ap (λ (x : Option (List Entry)). unwrap_or x []) whole in
    record {
      stands = there;
      kind = h.kind;
      sorted = sorted_for Updating request r.ty es h.content whole;
      admitted = admitted_for Updating request r.ty es h.content whole;
      later = ap (expires_later e) (sym names) ∙ h.later;
      live = ap (links_live e) (sym names) ∙ h.live;
      few = ap (λ (xs : List Entry). option_map_or are_few (membership_edited r xs) true) (sym names) ∙ few_of e (membership_edited r (named_by Update request r)) h.new;
    }
