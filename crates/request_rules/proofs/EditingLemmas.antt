-- Contents that name attributes, and the order in which an Update is refused by them.
use Rattle.std.proofs.Common.{◌≡◌, ℕ, List, [], ◌∷◌, ◌++◌, Bool, true, false, Option, Some, None, unwrap_or, if◌then◌else◌, refl, sym, ap, ◌∙◌}
use Rattle.std.proofs.lemmas.Bool.{and_parts, both_ways}
use Rattle.std.specs.Option.{option_map_or, option_or}
use Rattle.m2m_names.specs.declared.codes.Rsc.TheVariants.{BadRequest}
use Rattle.m2m_names.specs.declared.operations.Op.TheVariants.{Update}
use Rattle.m2m_names.specs.declared.types.Ty.{Ty}
use Rattle.m2m_value.specs.Data.{Entry}
use Rattle.m2m_value.specs.Node.{AreSorted}
use Rattle.primitive_json.specs.declared.request.RequestParts.{RequestParts}
use Rattle.resource_model.specs.Resource.{ResourceData}
use Rattle.attribute_rules.specs.Admission.{are_admitted}
use Rattle.attribute_rules.specs.declared.table.Writing.{Writing}
use Rattle.attribute_rules.specs.declared.table.Writing.TheVariants.{Update as Updating}
use Rattle.entity_model.specs.Entity.{EntityData}
use Rattle.entity_model.specs.Places.{first_fault, unless}
use Rattle.request_rules.specs.Order.{content_places, creation_places, edit_places, fault_edit, fault_named, named_places}
use Rattle.request_rules.specs.Requests.{admits, are_in_order, content_for, is_content_for, named_by}
use Rattle.request_rules.proofs.InOrderLemmas.{order_sorted}
use Rattle.request_rules.proofs.OrderLemmas.{first_fault-append}

-- ---- which contents are for a type

-- one that names attributes, where these are admitted
pub content_admits : (writing : Writing) (request : RequestParts) (ty : Ty) (es : List Entry) → content_for request ty ≡ Some es → is_content_for writing request ty ≡ admits writing ty es
content_admits writing request ty es is = ap (λ (x : Option (List Entry)). option_map_or (admits writing ty) x false) is

-- and one that names none isn't
pub no_content : (writing : Writing) (request : RequestParts) (ty : Ty) → content_for request ty ≡ None → is_content_for writing request ty ≡ false
no_content writing request ty none = ap (λ (x : Option (List Entry)). option_map_or (admits writing ty) x false) none

-- so one for the type names attributes
pub names_some : (writing : Writing) (request : RequestParts) (ty : Ty) → is_content_for writing request ty ≡ true → content_for request ty ≡ None → ⊥
names_some writing request ty is none = both_ways (is_content_for writing request ty) (no_content writing request ty none) is

-- which stand in order, and are admitted
pub sorted_for : (writing : Writing) (request : RequestParts) (ty : Ty) (es : List Entry) → is_content_for writing request ty ≡ true → content_for request ty ≡ Some es → AreSorted es
sorted_for writing request ty es is names =
    order_sorted es (and_parts (are_in_order es) (are_admitted writing ty es) (sym (content_admits writing request ty es names) ∙ is)).0

pub admitted_for : (writing : Writing) (request : RequestParts) (ty : Ty) (es : List Entry) → is_content_for writing request ty ≡ true → content_for request ty ≡ Some es → are_admitted writing ty es ≡ true
admitted_for writing request ty es is names =
    (and_parts (are_in_order es) (are_admitted writing ty es) (sym (content_admits writing request ty es names) ∙ is)).1

-- ---- an Update

module _ (e : EntityData) (o : List ℕ) (request : RequestParts) (r : ResourceData) where
  -- by whether its content is admitted
  admitting : (b : Bool) → is_content_for Updating request r.ty ≡ b → first_fault (content_places Update e request r ++ creation_places Update e o request r) ≡ first_fault ((unless b BadRequest ∷ named_places e (named_by Update request r)) ++ creation_places Update e o request r)
  admitting b is = ap (λ (x : Bool). first_fault ((unless x BadRequest ∷ named_places e (named_by Update request r)) ++ creation_places Update e o request r)) is

  -- it is refused by what it names, and then by the members that a group is to have
  pub edit_refused : (es : List Entry) → content_for request r.ty ≡ Some es → first_fault (content_places Update e request r ++ creation_places Update e o request r) ≡ fault_edit e r es
  edit_refused es names = admitting (admits Updating r.ty es) (content_admits Updating request r.ty es names) ∙ by_admission (admits Updating r.ty es)
    where
      by_admission : (b : Bool) → first_fault ((unless b BadRequest ∷ named_places e (named_by Update request r)) ++ creation_places Update e o request r) ≡ option_or (if b then fault_named e es else Some BadRequest) (first_fault (edit_places e r es))
      by_admission true =
          first_fault-append (named_places e (named_by Update request r)) (creation_places Update e o request r)
          ∙ ap (λ (x : Option (List Entry)). option_or (fault_named e (unwrap_or x [])) (first_fault (edit_places e r (unwrap_or x [])))) names
      by_admission false = refl
