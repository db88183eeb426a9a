-- What an originator sees decides what comes of its operations on a resource.
use Rattle.std.specs.Prelude.{◌≡◌, ℕ, List, [], ◌∷◌, Bool, false, IsTrue}
use Rattle.std.specs.List.{list_any}
use Rattle.m2m_names.specs.Name.{is_originator}
use Rattle.m2m_names.specs.declared.attributes.Attr.{Attr}
use Rattle.m2m_names.specs.declared.attributes.Attr.TheVariants.{Acpi, Pv, Pvs}
use Rattle.m2m_names.specs.declared.operations.Op.{Op}
use Rattle.m2m_names.specs.declared.operations.Op.TheVariants.{Create, Update}
use Rattle.m2m_names.specs.Types.{all_types}
use Rattle.m2m_value.specs.Data.{Entry}
use Rattle.primitive_json.specs.declared.request.RequestParts.{RequestParts}
use Rattle.attribute_rules.specs.Admission.{is_named}
use Rattle.entity_model.specs.Entity.{EntityData}
use Rattle.entity_model.specs.Sound.{IsSoundEntity}
use Rattle.request_rules.specs.Order.{fault_at}
use Rattle.request_rules.specs.Requests.{named_for}
use Rattle.create_delete.specs.Telling.{told_effect_at}
use Rattle.equal_sights.specs.Sight.{shape, sight}

-- On what its originator sees, an operation on the resource of a number is refused by the same
-- place, or by none.
abbrev pub IsRefusedBySight : Op → Type 0
IsRefusedBySight op =
    (e : EntityData) (originator : List ℕ) (request : RequestParts) (n : ℕ)
    → fault_at op (sight originator e) originator request n ≡ fault_at op e originator request n

-- A Create under the resource of a number in two sound entities, of which its originator sees the
-- same, is answered alike, and the originator sees the same of what they leave.
abbrev pub CreatesAreSeenAlike : Type 0
CreatesAreSeenAlike =
    (left right : EntityData) (originator : List ℕ) (request : RequestParts) (n : ℕ)
    → IsSoundEntity left → IsSoundEntity right → sight originator left ≡ sight originator right
    → IsTrue (is_originator originator)
    → ((told_effect_at Create left originator request n).reply
    ≡ (told_effect_at Create right originator request n).reply)
    × (sight originator (told_effect_at Create left originator request n).after
    ≡ sight originator (told_effect_at Create right originator request n).after)

-- the attributes by which somebody is judged: the policies of a resource, and a policy's rules
abbrev pub rule_attrs : List Attr
rule_attrs = Acpi ∷ Pv ∷ Pvs ∷ []

-- one of them is named
abbrev pub names_rules : List Entry → Bool
names_rules es = list_any (λ a. is_named a es) rule_attrs

-- The content of the request names one of them, for some type: after its Update others may be
-- judged anew.
abbrev pub changes_rules : RequestParts → Bool
changes_rules request = list_any (λ ty. names_rules (named_for request ty)) all_types

-- An Update of the resource of a number in two sound entities, of which its originator sees the
-- same, is answered alike, where it names none of them; and the originator sees the same of what
-- they leave.
abbrev pub UpdatesAreSeenAlike : Type 0
UpdatesAreSeenAlike =
    (left right : EntityData) (originator : List ℕ) (request : RequestParts) (n : ℕ)
    → IsSoundEntity left → IsSoundEntity right → sight originator left ≡ sight originator right
    → changes_rules request ≡ false
    → ((told_effect_at Update left originator request n).reply
    ≡ (told_effect_at Update right originator request n).reply)
    × (sight originator (told_effect_at Update left originator request n).after
    ≡ sight originator (told_effect_at Update right originator request n).after)

-- One that names them is answered alike in two sound entities that have one shape for its
-- originator, and leaves one shape.
abbrev pub RuleUpdatesKeepOneShape : Type 0
RuleUpdatesKeepOneShape =
    (left right : EntityData) (originator : List ℕ) (request : RequestParts) (n : ℕ)
    → IsSoundEntity left → IsSoundEntity right → shape originator left ≡ shape originator right
    → IsTrue (changes_rules request)
    → ((told_effect_at Update left originator request n).reply
    ≡ (told_effect_at Update right originator request n).reply)
    × (shape originator (told_effect_at Update left originator request n).after
    ≡ shape originator (told_effect_at Update right originator request n).after)
