-- The attributes that a resource keeps, and their kinds.
use Rattle.std.specs.Prelude.{Bool, true, false, ◌&&◌, List, Option, Some, None, if◌then◌else◌}
use Rattle.std.specs.List.{list_all}
use Rattle.std.specs.Option.{option_map_or}
use Rattle.m2m_names.specs.declared.attributes.Attr.{Attr}
use Rattle.m2m_names.specs.declared.attributes.Attr.TheVariants.{Acpi}
use Rattle.m2m_names.specs.declared.types.Ty.{Ty}
use Rattle.m2m_names.specs.declared.types.Ty.TheVariants.{CseBase}
use Rattle.resource_model.specs.Attributes.{Row, is_attr}
use Rattle.resource_model.specs.Resource.{ResourceData, is_ty}
use Rattle.attribute_kinds.specs.Kinds.{has_kind}
use Rattle.attribute_kinds.specs.declared.kinds.Kind.{Kind}
use Rattle.attribute_kinds.specs.declared.kinds.Kind.TheVariants.{Originator, Policies}
use Rattle.attribute_rules.specs.Table.{rule_of}
use Rattle.attribute_rules.specs.declared.table.Rule.{Rule}
use Rattle.attribute_rules.specs.declared.table.Source.{Source}
use Rattle.attribute_rules.specs.declared.table.Source.TheVariants.{Given, Apart, Creator, Assigned}
use Rattle.attribute_rules.specs.declared.table.Source.TheVariants.{Derived}

-- the kind of the values that a resource keeps of an attribute: of `cr` the originator
abbrev pub kept_kind : Source → Option Kind
kept_kind (Given kind) = Some kind
kept_kind (Apart kind) = None
kept_kind Creator = Some Originator
kept_kind (Assigned kind) = Some kind
kept_kind Derived = None

-- what the CSEBase keeps from the opening on, which no request names: the policies that judge it
abbrev pub opening_kind : Ty → Attr → Option Kind
opening_kind ty attr = if is_ty ty CseBase && is_attr attr Acpi then Some Policies else None

-- the kind of an attribute that a resource of the type keeps among its attributes, and so not of
-- what is shown from its number, its name, its moments, its place, its children or the home
-- (TS-0001, 9.6; TS-0004, 7.4)
abbrev pub kind_of : Ty → Attr → Option Kind
kind_of ty attr =
    option_map_or (λ (rule : Rule). kept_kind rule.source) (rule_of ty attr) (opening_kind ty attr)

-- the attribute is one that the type keeps, and its value is of that kind
abbrev pub is_attr_kind : Ty → Row → Bool
is_attr_kind ty row = option_map_or (λ kind. has_kind kind row.1) (kind_of ty row.0) false

-- each of these attributes of a resource of the type is so
abbrev pub have_kinds : Ty → List Row → Bool
have_kinds ty rows = list_all (is_attr_kind ty) rows

-- each attribute of the resource is so
abbrev pub are_kinds : ResourceData → Bool
are_kinds r = have_kinds r.ty r.attrs
