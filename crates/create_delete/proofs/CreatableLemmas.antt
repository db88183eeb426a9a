-- What holds of a creation that no place refuses.
use Rattle.std.proofs.Common.{◌≡◌, ℕ, List, true, false, Option, Some, None, sym, ap, ◌∙◌}
use Rattle.std.proofs.lemmas.Bool.{and_parts}
use Rattle.std.specs.List.{list_all}
use Rattle.std.specs.Option.{option_map_or}
use Rattle.m2m_names.specs.Types.{does_take}
use Rattle.m2m_names.specs.declared.operations.Op.TheVariants.{Create}
use Rattle.m2m_names.specs.declared.types.Ty.{Ty}
use Rattle.m2m_value.specs.Data.{Entry}
use Rattle.primitive_json.specs.declared.request.RequestParts.{RequestParts}
use Rattle.resource_model.specs.Resource.{ResourceData}
use Rattle.tree_model.specs.Tree.{at}
use Rattle.attribute_rules.specs.declared.table.Writing.TheVariants.{Create as Creating}
use Rattle.entity_model.specs.Entity.{EntityData}
use Rattle.entity_model.specs.Places.{Check}
use Rattle.request_rules.specs.Creation.{creation_of}
use Rattle.request_rules.specs.Groups.{are_few, membership_new}
use Rattle.request_rules.specs.Order.{expires_later, fault_on}
use Rattle.request_rules.specs.Policies.{links_live}
use Rattle.request_rules.specs.Requests.{child_ty, content_for, is_content_for, named_by, takes_child}
use Rattle.request_rules.proofs.CreatingLemmas.{named_is, new_is}
use Rattle.request_rules.proofs.EditingLemmas.{admitted_for, names_some, sorted_for}
use Rattle.request_rules.proofs.OrderLemmas.{new_parts, places_parts}
use Rattle.create_delete.specs.Joining.{IsAllowed}

-- ---- what is there

-- it names a type
pub names_type : (e : EntityData) (o : List ℕ) (request : RequestParts) (parent : ResourceData) → fault_on Create e o request parent ≡ None → child_ty request ≡ None → ⊥
names_type e o request parent none child =
    let taken : takes_child Create request parent ≡ true = (places_parts Create e o request parent none).child in
    let lacks : takes_child Create request parent ≡ false = ap (λ (x : Option Ty). option_map_or (does_take parent.ty) x false) child in
    let both : true ≡ false = sym taken ∙ lacks in
    cc

content_of : (e : EntityData) (o : List ℕ) (request : RequestParts) (parent : ResourceData) (ty : Ty) → fault_on Create e o request parent ≡ None → child_ty request ≡ Some ty → is_content_for Creating request ty ≡ true
content_of e o request parent ty none child = sym (ap (λ (x : Option Ty). option_map_or (is_content_for Creating request) x false) child) ∙ (places_parts Create e o request parent none).content

-- and attributes of it
pub names_attributes : (e : EntityData) (o : List ℕ) (request : RequestParts) (parent : ResourceData) (ty : Ty) → fault_on Create e o request parent ≡ None → child_ty request ≡ Some ty → content_for request ty ≡ None → ⊥
names_attributes e o request parent ty none child lacks = names_some Creating request ty (content_of e o request parent ty none child) lacks

-- ---- the creation is allowed

pub allowed : (e : EntityData) (o : List ℕ) (request : RequestParts) (parent : ResourceData) (ty : Ty) (es : List Entry) → fault_on Create e o request parent ≡ None → at parent.number e.nodes ≡ Some parent → child_ty request ≡ Some ty → content_for request ty ≡ Some es → IsAllowed (creation_of e o ty parent es)
allowed e o request parent ty es none there child whole =
    let h = places_parts Create e o request parent none in
    let names : named_by Create request parent ≡ es = named_is request parent ty es child whole in
    let new = new_parts (creation_of e o ty parent es) (sym (ap (list_all (λ (p : Check). p.holds)) (new_is e o request parent ty es child whole)) ∙ h.new) in
    record {
      parent = there;
      takes = sym (ap (λ (x : Option Ty). option_map_or (does_take parent.ty) x false) child) ∙ h.child;
      sorted = sorted_for Creating request ty es (content_of e o request parent ty none child) whole;
      admitted = admitted_for Creating request ty es (content_of e o request parent ty none child) whole;
      later = ap (expires_later e) (sym names) ∙ h.later;
      live = ap (links_live e) (sym names) ∙ h.live;
      unique = new.unique;
      room = new.room;
      few = (and_parts (option_map_or are_few (membership_new (creation_of e o ty parent es)) true) _ new.members).0;
    }
