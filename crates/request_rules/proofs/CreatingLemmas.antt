-- The order in which a Create is refused, by what it names.
use Rattle.std.proofs.Common.{◌≡◌, ℕ, List, [], ◌∷◌, ◌++◌, Bool, true, false, Option, Some, unwrap_or, if◌then◌else◌, refl, ap, ◌∙◌}
use Rattle.std.specs.Option.{option_map_or, option_or}
use Rattle.m2m_names.specs.declared.codes.Rsc.TheVariants.{BadRequest, Conflict, NotAcceptable}
use Rattle.m2m_names.specs.declared.operations.Op.TheVariants.{Create}
use Rattle.m2m_names.specs.declared.types.Ty.{Ty}
use Rattle.m2m_value.specs.Data.{Entry}
use Rattle.primitive_json.specs.declared.request.RequestParts.{RequestParts}
use Rattle.resource_model.specs.Resource.{ResourceData}
use Rattle.attribute_rules.specs.declared.table.Writing.TheVariants.{Create as Creating}
use Rattle.request_rules.specs.Creation.{Creation, creation_of, is_unique, has_room}
use Rattle.request_rules.specs.Groups.{have_addresses, membership_new}
use Rattle.entity_model.specs.Entity.{EntityData}
use Rattle.request_rules.specs.Order.{creation_by, content_places, creation_places, fault_creation, fault_named, fault_new, member_places, named_places, new_places}
use Rattle.entity_model.specs.Places.{Check, first_fault, unless}
use Rattle.request_rules.specs.Requests.{admits, admits_content, child_ty, content_for, is_content_for, named_by, named_for}
use Rattle.request_rules.proofs.EditingLemmas.{content_admits}
use Rattle.request_rules.proofs.OrderLemmas.{first_fault-append}

-- what a Create names
pub named_is : (request : RequestParts) (parent : ResourceData) (ty : Ty) (es : List Entry) → child_ty request ≡ Some ty → content_for request ty ≡ Some es → named_by Create request parent ≡ es
named_is request parent ty es child content =
    ap (λ (o : Option Ty). option_map_or (named_for request) o []) child
    ∙ ap (λ (o : Option (List Entry)). unwrap_or o []) content

-- by what it creates it is refused
pub new_is : (e : EntityData) (o : List ℕ) (request : RequestParts) (parent : ResourceData) (ty : Ty) (es : List Entry) → child_ty request ≡ Some ty → content_for request ty ≡ Some es → creation_places Create e o request parent ≡ new_places (creation_of e o ty parent es)
new_is e o request parent ty es child content =
    ap (λ (x : Option Ty). option_map_or (λ ty. new_places (creation_by e o request parent ty)) x []) child
    ∙ ap (λ (x : Option (List Entry)). new_places (creation_of e o ty parent (unwrap_or x []))) content

-- by whether its content is admitted
admitting : (e : EntityData) (o : List ℕ) (request : RequestParts) (parent : ResourceData) (b : Bool) → admits_content Create request parent ≡ b → first_fault (content_places Create e request parent ++ creation_places Create e o request parent) ≡ first_fault ((unless b BadRequest ∷ named_places e (named_by Create request parent)) ++ creation_places Create e o request parent)
admitting e o request parent b is = ap (λ (x : Bool). first_fault ((unless x BadRequest ∷ named_places e (named_by Create request parent)) ++ creation_places Create e o request parent)) is

of_type : (request : RequestParts) (parent : ResourceData) (ty : Ty) → child_ty request ≡ Some ty → admits_content Create request parent ≡ is_content_for Creating request ty
of_type request parent ty child = ap (λ (x : Option Ty). option_map_or (is_content_for Creating request) x false) child

-- it is refused by what it names, and then by what it creates
pub creation_refused : (e : EntityData) (o : List ℕ) (request : RequestParts) (parent : ResourceData) (ty : Ty) (es : List Entry) → child_ty request ≡ Some ty → content_for request ty ≡ Some es → first_fault (content_places Create e request parent ++ creation_places Create e o request parent) ≡ fault_creation (creation_of e o ty parent es)
creation_refused e o request parent ty es child content =
    admitting e o request parent (admits Creating ty es) (of_type request parent ty child ∙ content_admits Creating request ty es content)
    ∙ by_admission (admits Creating ty es)
  where
    by_admission : (b : Bool) → first_fault ((unless b BadRequest ∷ named_places e (named_by Create request parent)) ++ creation_places Create e o request parent) ≡ option_or (if b then fault_named e es else Some BadRequest) (fault_new (creation_of e o ty parent es))
    by_admission true =
        first_fault-append (named_places e (named_by Create request parent)) (creation_places Create e o request parent)
        ∙ ap (λ (x : List Entry). option_or (fault_named e x) (first_fault (creation_places Create e o request parent))) (named_is request parent ty es child content)
        ∙ ap (λ (x : List Check). option_or (fault_named e es) (first_fault x)) (new_is e o request parent ty es child content)
    by_admission false = refl

-- ---- what is created is refused by the first that doesn't hold

pub new_by_addresses : (c : Creation) → have_addresses c.e.home (membership_new c) ≡ false → Some BadRequest ≡ fault_new c
new_by_addresses c addresses = rw addresses refl

pub new_by_unique : (c : Creation) → have_addresses c.e.home (membership_new c) ≡ true → is_unique c ≡ false → Some Conflict ≡ fault_new c
new_by_unique c addresses unique = rw (addresses, unique) refl

pub new_by_room : (c : Creation) → have_addresses c.e.home (membership_new c) ≡ true → is_unique c ≡ true → has_room c ≡ false → Some NotAcceptable ≡ fault_new c
new_by_room c addresses unique room = rw (addresses, unique, room) refl

pub new_by_members : (c : Creation) → have_addresses c.e.home (membership_new c) ≡ true → is_unique c ≡ true → has_room c ≡ true → first_fault (member_places c.e (membership_new c)) ≡ fault_new c
new_by_members c addresses unique room = rw (addresses, unique, room) refl
