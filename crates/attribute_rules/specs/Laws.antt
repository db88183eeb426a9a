-- What holds of the table as a whole, and what an update may do by it.
use Rattle.std.specs.Prelude.{Bool, true, false, not, ◌&&◌, ◌||◌, List, [], ◌∷◌, if◌then◌else◌}
use Rattle.std.specs.List.{list_all, list_any}
use Rattle.std.specs.Option.{option_map_or}
use Rattle.m2m_names.specs.declared.attributes.Attr.{Attr}
use Rattle.m2m_names.specs.declared.types.Ty.{Ty}
use Rattle.resource_model.specs.Attributes.{Row, is_attr}
use Rattle.attribute_kinds.specs.declared.kinds.Kind.TheVariants.{Policies}
use Rattle.attribute_rules.specs.Admission.{is_clearable, is_given}
use Rattle.attribute_rules.specs.Contents.{is_apart, names_policies}
use Rattle.attribute_rules.specs.Table.{AttrRow, is_type_among, is_mandatory, is_permitted}
use Rattle.attribute_rules.specs.Table.{announceable_types, rule_of}
use Rattle.attribute_rules.specs.declared.table.Rule.{Rule}
use Rattle.attribute_rules.specs.declared.table.Source.{Source}
use Rattle.attribute_rules.specs.declared.table.Source.TheVariants.{Given, Apart, Creator, Assigned}
use Rattle.attribute_rules.specs.declared.table.Source.TheVariants.{Derived}
use Rattle.attribute_rules.specs.declared.table.Writing.TheVariants.{Update}

-- two rows are for different attributes, or for different types
abbrev pub are_apart : AttrRow → AttrRow → Bool
are_apart a b =
    not (is_attr a.attr b.attr) || not (list_any (λ ty. is_type_among ty b.types) a.types)

-- no attribute has two rows of one type
abbrev pub stand_once : List AttrRow → Bool
stand_once [] = true
stand_once (row ∷ rows) = list_all (are_apart row) rows && stand_once rows

-- the CSE gives the value
abbrev pub is_assigned : Source → Bool
is_assigned (Given kind) = false
is_assigned (Apart kind) = false
is_assigned Creator = false
is_assigned (Assigned kind) = true
is_assigned Derived = true

-- no request names what the CSE gives, and a creation may name all else
abbrev pub has_columns : AttrRow → Bool
has_columns row =
    if is_assigned row.rule.source
    then not (is_permitted row.rule.create || is_permitted row.rule.update)
    else is_permitted row.rule.create

-- a request asks for the value, and the resource doesn't keep it as it is given
abbrev pub is_beside : Source → Bool
is_beside (Given kind) = false
is_beside (Apart kind) = true
is_beside Creator = true
is_beside (Assigned kind) = false
is_beside Derived = false

-- a creation says beside its attributes just what a resource doesn't keep as it is given
abbrev pub is_told_apart : AttrRow → Bool
is_told_apart row =
    if is_apart row.attr then is_beside row.rule.source else not (is_beside row.rule.source)

-- the attributes that name policies are those whose values are lists of their ids
abbrev pub is_of_policies : Source → Bool
is_of_policies (Given Policies) = true
is_of_policies _ = false

abbrev pub has_policies : AttrRow → Bool
has_policies row =
    if names_policies row.attr then is_of_policies row.rule.source
    else not (is_of_policies row.rule.source)

-- what an update may name and not clear, a creation has to name
abbrev pub has_needed : AttrRow → Bool
has_needed row = not (is_mandatory row.rule.update) || is_mandatory row.rule.create

-- what is announced is of types that can be
abbrev pub has_original : AttrRow → Bool
has_original row =
    not row.rule.announced || list_all (λ ty. is_type_among ty announceable_types) row.types

-- ---- what an update may do to a resource of a type

-- The request may name the attribute.
abbrev pub may_name : Ty → Attr → Bool
may_name ty attr =
    option_map_or (λ (rule : Rule). is_permitted rule.update) (rule_of ty attr) false

-- The request may give the attribute this value, which is of its kind, also where it is `et`.
abbrev pub may_set : Ty → Row → Bool
may_set ty row =
    option_map_or (λ (rule : Rule). is_permitted rule.update && is_given rule.source row.1)
    (rule_of ty row.0) false

-- The request may clear the attribute.
abbrev pub may_clear : Ty → Attr → Bool
may_clear ty attr = option_map_or (is_clearable Update) (rule_of ty attr) false
