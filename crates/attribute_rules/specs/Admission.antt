-- Which contents of a Create and of an Update are admitted, and what is wrong with the others.
use Rattle.std.specs.Prelude.{◌≡◌, ℕ, Bool, true, false, not, ◌&&◌, ◌||◌, List, [], bytes_eq}
use Rattle.std.specs.Prelude.{Option, Some, None, find, is_some, is_none, option_map}
use Rattle.std.specs.Prelude.{Result, Err, IsTrue, ◌⊎◌}
use Rattle.std.specs.Prelude.{option_and_then, unwrap_or, if◌then◌else◌}
use Rattle.std.specs.List.{filter_map, list_all}
use Rattle.std.specs.Option.{option_or, option_map_or}
use Rattle.m2m_names.specs.Attributes.{attr_short, attr_of_short}
use Rattle.m2m_names.specs.Types.{ty_member}
use Rattle.m2m_names.specs.declared.attributes.Attr.{Attr}
use Rattle.m2m_names.specs.declared.attributes.Attr.TheVariants.{Acpi}
use Rattle.m2m_names.specs.declared.types.Ty.{Ty}
use Rattle.m2m_value.specs.Data.{Data, Entry}
use Rattle.m2m_value.specs.View.{as_object, member_of, only_member}
use Rattle.attribute_kinds.specs.Kinds.{has_kind, is_content}
use Rattle.attribute_rules.specs.Table.{rule_of, is_mandatory, is_permitted, mandatory_attrs}
use Rattle.attribute_rules.specs.declared.table.Optionality.{Optionality}
use Rattle.attribute_rules.specs.declared.table.Optionality.TheVariants.{Mandatory, Optional}
use Rattle.attribute_rules.specs.declared.table.Optionality.TheVariants.{NotPermitted}
use Rattle.attribute_rules.specs.declared.table.Rule.{Rule}
use Rattle.attribute_rules.specs.declared.table.Source.{Source}
use Rattle.attribute_rules.specs.declared.table.Source.TheVariants.{Given, Apart, Creator, Assigned}
use Rattle.attribute_rules.specs.declared.table.Source.TheVariants.{Derived}
use Rattle.attribute_rules.specs.declared.table.Writing.{Writing}
use Rattle.attribute_rules.specs.declared.table.Writing.TheVariants.{Create, Update}
use Rattle.attribute_rules.specs.declared.admission.Firsts.{Firsts}
use Rattle.attribute_rules.specs.declared.faults.AttrFault.{AttrFault}
use Rattle.attribute_rules.specs.declared.faults.AttrFault.TheVariants.{Shape, Unknown, NotAllowed}
use Rattle.attribute_rules.specs.declared.faults.AttrFault.TheVariants.{Kind as WrongKind, Missing}
use Rattle.attribute_rules.specs.declared.faults.AttrFault.TheVariants.{AcpiNotAlone, OutOfMemory}

-- ---- the content

-- the value of the one member, where it has this name
abbrev pub only_value : List ℕ → List Entry → Option Data
only_value name es =
    option_and_then (λ (e : Entry). if bytes_eq e.0 name then Some e.1 else None) (only_member es)

-- the attributes that a content names, with their values: it is an object with exactly one member,
-- named by the type, whose value is an object (TS-0004, 8.4)
abbrev pub attributes_in : Ty → Data → Option (List Entry)
attributes_in ty content =
    option_and_then as_object (option_and_then (only_value (ty_member ty)) (as_object content))

-- The attributes that a content names, with their values; none where it is no content for the type.
abbrev pub named_members : Ty → Data → List Entry
named_members ty content = unwrap_or (attributes_in ty content) []

-- the attribute is named
abbrev pub is_named : Attr → List Entry → Bool
is_named attr es = is_some (member_of (attr_short attr) es)

-- ---- one attribute

-- The value is null, by which an Update takes an attribute away and a Create asks for `cr`
-- (TS-0004, 7.4).
abbrev pub is_null : Data → Bool
is_null d = not (is_content d)

-- what the rule says of a request: of a creation, or of an update
abbrev pub column_of : Writing → Rule → Optionality
column_of Create rule = rule.create
column_of Update rule = rule.update

-- a request may give the value: it is of the kind, or for `cr` null
abbrev pub is_given : Source → Data → Bool
is_given (Given kind) d = has_kind kind d
is_given (Apart kind) d = has_kind kind d
is_given Creator d = is_null d
is_given (Assigned kind) d = false
is_given Derived d = false

-- an update may clear the attribute, which null does: it is optional
abbrev pub is_clearable : Writing → Rule → Bool
is_clearable Create rule = false
is_clearable Update rule = is_permitted rule.update && not (is_mandatory rule.update)

-- the value is one that the request may have at the attribute
abbrev pub allows_value : Writing → Rule → Data → Bool
allows_value writing rule d = (is_null d && is_clearable writing rule) || is_given rule.source d

-- the attribute of the type whose short name is the key, and its rule
abbrev pub rule_at : Ty → List ℕ → Option (Attr × Rule)
rule_at ty key =
    option_and_then (λ attr. option_map (λ rule. (attr, rule)) (rule_of ty attr))
    (attr_of_short key)

-- a member that the request may have: the type has the attribute, the request may name it, and the
-- value is of its kind
abbrev pub is_fit : Writing → Ty → Entry → Bool
is_fit writing ty e =
    option_map_or
    (λ (p : Attr × Rule). is_permitted (column_of writing p.1) && allows_value writing p.1 e.1)
    (rule_at ty e.0) false

-- ---- admission

-- exactly one attribute is named
abbrev pub is_alone : List Entry → Bool
is_alone es = is_some (only_member es)

-- a creation names what it has to; an update that names `acpi` names nothing else
abbrev pub is_complete : Writing → Ty → List Entry → Bool
is_complete Create ty es = list_all (λ attr. is_named attr es) (mandatory_attrs ty)
is_complete Update ty es = not (is_named Acpi es) || is_alone es

-- A content with these members is admitted: each is fit for the request, and what the request has
-- to name is there (TS-0004, 7.4).
abbrev pub are_admitted : Writing → Ty → List Entry → Bool
are_admitted writing ty es = list_all (is_fit writing ty) es && is_complete writing ty es

-- The content is admitted: it names attributes of the type alone, which the request may name, each
-- with a value of its kind, and all that it has to (TS-0004, 7.4).
abbrev pub is_admitted : Writing → Ty → Data → Bool
is_admitted writing ty content =
    option_map_or (are_admitted writing ty) (attributes_in ty content) false

-- ---- faults

-- what is wrong at an attribute that the type has: that it stands there, or its value
abbrev pub value_fault : Writing → Attr → Rule → Data → Option AttrFault
value_fault writing attr rule d =
    if not (is_permitted (column_of writing rule)) then Some (NotAllowed attr) else
    if not (allows_value writing rule d) then Some (WrongKind attr) else None

-- what is wrong with a member
abbrev pub key_fault : Writing → Ty → Entry → Option AttrFault
key_fault writing ty e =
    option_map_or (λ (p : Attr × Rule). value_fault writing p.0 p.1 e.1)
    (rule_at ty e.0) (Some (Unknown e.0))

abbrev pub is_unknown : AttrFault → Bool
is_unknown (Unknown key) = true
is_unknown _ = false

abbrev pub is_not_allowed : AttrFault → Bool
is_not_allowed (NotAllowed attr) = true
is_not_allowed _ = false

abbrev pub is_wrong_kind : AttrFault → Bool
is_wrong_kind (WrongKind attr) = true
is_wrong_kind _ = false

-- Of several faults of keys the first whose key is unknown, else the first that may not stand
-- there, else the first with a wrong value.
abbrev pub leading_fault : List AttrFault → Option AttrFault
leading_fault faults =
    option_or (find is_unknown faults)
    (option_or (find is_not_allowed faults) (find is_wrong_kind faults))

-- of each kind of fault of keys the first so far, after one more key, which has a fault or none
abbrev pub with_fault : Firsts → Option AttrFault → Firsts
with_fault firsts fault =
    if option_map_or is_unknown fault false
    then record firsts { unknown = option_or firsts.unknown fault }
    else if option_map_or is_not_allowed fault false
    then record firsts { not_allowed = option_or firsts.not_allowed fault }
    else record firsts { wrong = option_or firsts.wrong fault }

-- the first attribute in the table that a creation has to name and this one doesn't
abbrev pub missing_attr : Ty → List Entry → Option Attr
missing_attr ty es = find (λ attr. not (is_named attr es)) (mandatory_attrs ty)

-- what else is wrong: what a creation doesn't name, or what an update names beside `acpi`
abbrev pub rest_fault : Writing → Ty → List Entry → Option AttrFault
rest_fault Create ty es = option_map Missing (missing_attr ty es)
rest_fault Update ty es =
    if is_named Acpi es && not (is_alone es) then Some AcpiNotAlone else None

-- the first fault of the attributes that a content names: by kind of fault, then by byte order of
-- keys, of what is missing by the order of the table
abbrev pub fault_in : Writing → Ty → List Entry → Option AttrFault
fault_in writing ty es =
    option_or (leading_fault (filter_map (key_fault writing ty) es)) (rest_fault writing ty es)

-- the first fault of a content
abbrev pub fault_of : Writing → Ty → Data → Option AttrFault
fault_of writing ty content =
    option_map_or (fault_in writing ty) (attributes_in ty content) (Some Shape)

-- there is a fault, and it is an unknown attribute
abbrev pub has_unknown : Option AttrFault → Bool
has_unknown fault = option_map_or is_unknown fault false

-- What is told of a first fault: that fault, or, where memory runs out for the name of an unknown
-- attribute, that it did.
abbrev pub IsTold : Option AttrFault → AttrFault → Type 0
IsTold fault told = (fault ≡ Some told) ⊎ ((told ≡ OutOfMemory) × IsTrue (has_unknown fault))

-- A content with this first fault is refused for it, or, where memory runs out for the name of an
-- unknown attribute, for want of memory.
abbrev pub Refuses : {A : Type 0} → Result A AttrFault → AttrFault → Type 0
Refuses result fault =
    (result ≡ Err fault) ⊎ ((result ≡ Err OutOfMemory) × IsTrue (is_unknown fault))
