-- The attributes of each type: where their values come from, and which requests may name them.
use Rattle.std.specs.Prelude.{Bool, true, false, not, ◌&&◌, List, [], ◌∷◌, map, filter, Option}
use Rattle.std.specs.Prelude.{Some, None, find, is_some, option_map, option_and_then, if◌then◌else◌}
use Rattle.std.specs.List.{filter_map, list_any}
use Rattle.std.specs.Option.{option_or, option_map_or}
use Rattle.m2m_names.specs.declared.attributes.Attr.{Attr}
use Rattle.m2m_names.specs.declared.attributes.Attr.TheVariants.{Aa, Acpi, Aei, Api, Apn, At, Cb}
use Rattle.m2m_names.specs.declared.attributes.Attr.TheVariants.{Cbs, Cnf, Cni, Cnm, Con, Cr, Cs}
use Rattle.m2m_names.specs.declared.attributes.Attr.TheVariants.{Csi, Cst, Csy, Ct, Enc, Et, Exc}
use Rattle.m2m_names.specs.declared.attributes.Attr.TheVariants.{Gn, Lbl, Lnk, Lt, Macp, Mbs}
use Rattle.m2m_names.specs.declared.attributes.Attr.TheVariants.{Mia, Mid, Mni, Mnm, Mt, Mtv, Nct}
use Rattle.m2m_names.specs.declared.attributes.Attr.TheVariants.{Nu, Pi, Poa, Pv, Pvs, Ri, Rn}
use Rattle.m2m_names.specs.declared.attributes.Attr.TheVariants.{Rr, Srt, Srv, St, Su, Ty as OfType}
use Rattle.m2m_names.specs.declared.types.Ty.{Ty}
use Rattle.m2m_names.specs.declared.types.Ty.TheVariants.{AccessControlPolicy, Ae, Container}
use Rattle.m2m_names.specs.declared.types.Ty.TheVariants.{ContentInstance, CseBase, Group}
use Rattle.m2m_names.specs.declared.types.Ty.TheVariants.{RemoteCse, Subscription}
use Rattle.m2m_names.specs.declared.types.Ty.TheVariants.{AccessControlPolicyAnnc, AeAnnc}
use Rattle.m2m_names.specs.declared.types.Ty.TheVariants.{ContainerAnnc, ContentInstanceAnnc}
use Rattle.m2m_names.specs.declared.types.Ty.TheVariants.{GroupAnnc}
use Rattle.m2m_names.specs.Types.{all_types}
use Rattle.m2m_value.specs.Shapes.{largest_count}
use Rattle.resource_model.specs.Attributes.{is_attr}
use Rattle.resource_model.specs.Home.{last_cse_type}
use Rattle.resource_model.specs.Resource.{is_ty}
use Rattle.attribute_kinds.specs.declared.kinds.Kind.{Kind}
use Rattle.attribute_kinds.specs.declared.kinds.Kind.TheVariants.{Name, Stamp, Text, Label, Labels}
use Rattle.attribute_kinds.specs.declared.kinds.Kind.TheVariants.{Bool as Truth, Count, OneOf}
use Rattle.attribute_kinds.specs.declared.kinds.Kind.TheVariants.{CseId, CseIds, Originator}
use Rattle.attribute_kinds.specs.declared.kinds.Kind.TheVariants.{Policies, Points, Target, Rules}
use Rattle.attribute_kinds.specs.declared.kinds.Kind.TheVariants.{Criteria, MemberType, Content}
use Rattle.attribute_rules.specs.declared.table.Optionality.{Optionality}
use Rattle.attribute_rules.specs.declared.table.Optionality.TheVariants.{Mandatory, Optional}
use Rattle.attribute_rules.specs.declared.table.Optionality.TheVariants.{NotPermitted}
use Rattle.attribute_rules.specs.declared.table.Source.{Source}
use Rattle.attribute_rules.specs.declared.table.Source.TheVariants.{Given, Apart, Creator, Assigned}
use Rattle.attribute_rules.specs.declared.table.Source.TheVariants.{Derived}
use Rattle.attribute_rules.specs.declared.table.Rule.{Rule}

-- ---- groups of types

-- the type of the resources of which those of an announced type are announced (TS-0001, 9.6.26)
abbrev pub original_of : Ty → Option Ty
original_of AccessControlPolicyAnnc = Some AccessControlPolicy
original_of AeAnnc = Some Ae
original_of ContainerAnnc = Some Container
original_of ContentInstanceAnnc = Some ContentInstance
original_of GroupAnnc = Some Group
original_of _ = None

-- the types of announced resources
abbrev pub announced_types : List Ty
announced_types = filter (λ ty. is_some (original_of ty)) all_types

-- the types whose resources can be announced
abbrev pub announceable_types : List Ty
announceable_types = filter_map original_of all_types

-- the types whose resources requests create: all but the CSEBase
abbrev pub created_types : List Ty
created_types = filter (λ ty. not (is_ty ty CseBase)) all_types

-- the types whose resources requests may link to policies
abbrev pub linked_types : List Ty
linked_types =
    Ae ∷ Container ∷ Group ∷ RemoteCse ∷ Subscription ∷ announced_types

-- the types whose resources may tell who created them
abbrev pub authored_types : List Ty
authored_types = Container ∷ ContentInstance ∷ Group ∷ Subscription ∷ []

-- the type is among these
abbrev pub is_type_among : Ty → List Ty → Bool
is_type_among ty types = list_any (is_ty ty) types

-- ---- the table

-- a row: the attribute of these types, and what is said of it
pub record AttrRow : Type 0 where
  pub types : List Ty
  pub attr : Attr
  pub rule : Rule

-- A rule of the table by its four columns.
abbrev pub rule : Source → Optionality → Optionality → Bool → Rule
rule source create update announced =
    record { source = source; create = create; update = update; announced = announced }

-- a row by its columns: types, attribute, source and kind of the value, in a creation, in an
-- update, and whether it can be announced
abbrev pub attr_row : List Ty → Attr → Source → Optionality → Optionality → Bool → AttrRow
attr_row types attr source create update announced =
    record { types = types; attr = attr; rule = rule source create update announced }

-- an attribute that the CSE assigns, so that no request names it
abbrev assigned_row : List Ty → Attr → Source → AttrRow
assigned_row types attr source = attr_row types attr source NotPermitted NotPermitted false

-- the table, in its order: the common attributes, those that the CSE assigns, those of each type
-- (TS-0001, 9.6; TS-0004, 7.4; what is left out, and what can't be announced, is the profile's)
abbrev pub attr_rows : List AttrRow
attr_rows =
    attr_row created_types Rn (Apart Name) Optional NotPermitted false
    ∷ attr_row created_types Et (Apart Stamp) Optional Optional false
    ∷ attr_row created_types Lbl (Given Labels) Optional Optional false
    ∷ attr_row linked_types Acpi (Given Policies) Optional Optional false
    ∷ attr_row announceable_types At (Given CseIds) Optional Optional false
    ∷ attr_row announceable_types Aa (Given Labels) Optional Optional false
    ∷ attr_row authored_types Cr Creator Optional NotPermitted false
    ∷ assigned_row all_types OfType Derived
    ∷ assigned_row all_types Ri Derived
    ∷ assigned_row all_types Pi Derived
    ∷ assigned_row all_types Ct Derived
    ∷ assigned_row all_types Lt Derived
    ∷ assigned_row (Container ∷ ContentInstance ∷ []) St (Assigned Count)
    ∷ assigned_row (Container ∷ []) Cni Derived
    ∷ assigned_row (Container ∷ []) Cbs Derived
    ∷ assigned_row (Group ∷ []) Cnm (Assigned Count)
    ∷ assigned_row (Group ∷ []) Mtv (Assigned Truth)
    ∷ assigned_row (CseBase ∷ []) Srt Derived
    ∷ attr_row (AccessControlPolicy ∷ []) Pv (Given Rules) Mandatory Mandatory true
    ∷ attr_row (AccessControlPolicy ∷ []) Pvs (Given Rules) Mandatory Mandatory true
    ∷ attr_row (Ae ∷ []) Apn (Given Text) Optional Optional true
    ∷ attr_row (Ae ∷ []) Api (Given Label) Mandatory NotPermitted true
    ∷ attr_row (Ae ∷ []) Aei (Assigned Originator) NotPermitted NotPermitted true
    ∷ attr_row (Ae ∷ []) Poa (Given Points) Optional Optional true
    ∷ attr_row (Ae ∷ []) Rr (Given Truth) Mandatory Mandatory true
    ∷ attr_row (Ae ∷ RemoteCse ∷ []) Srv (Given Labels) Optional Optional false
    ∷ attr_row (RemoteCse ∷ []) Cst (Given (OneOf 1 last_cse_type)) Optional NotPermitted false
    ∷ attr_row (RemoteCse ∷ []) Cb (Given Label) Mandatory NotPermitted false
    ∷ attr_row (RemoteCse ∷ []) Csi (Given CseId) Mandatory NotPermitted false
    ∷ attr_row (RemoteCse ∷ []) Poa (Given Points) Optional Optional false
    ∷ attr_row (RemoteCse ∷ []) Rr (Given Truth) Mandatory Mandatory false
    ∷ attr_row (Container ∷ []) Mni (Given Count) Optional Optional true
    ∷ attr_row (Container ∷ []) Mbs (Given Count) Optional Optional true
    ∷ attr_row (Container ∷ []) Mia (Given Count) Optional Optional true
    ∷ attr_row (ContentInstance ∷ []) Cnf (Given Text) Optional NotPermitted true
    ∷ attr_row (ContentInstance ∷ []) Con (Given Content) Mandatory NotPermitted true
    ∷ attr_row (ContentInstance ∷ []) Cs (Assigned Count) NotPermitted NotPermitted true
    ∷ attr_row (Group ∷ []) Mt (Given MemberType) Optional NotPermitted false
    ∷ attr_row (Group ∷ []) Mnm (Given Count) Mandatory Mandatory true
    ∷ attr_row (Group ∷ []) Mid (Given Points) Mandatory Mandatory true
    ∷ attr_row (Group ∷ []) Macp (Given Policies) Optional Optional false
    ∷ attr_row (Group ∷ []) Csy (Given (OneOf 1 3)) Optional NotPermitted true
    ∷ attr_row (Group ∷ []) Gn (Given Text) Optional Optional true
    ∷ attr_row (Subscription ∷ []) Enc (Given Criteria) Optional Optional false
    ∷ attr_row (Subscription ∷ []) Nu (Given Target) Mandatory Mandatory false
    ∷ attr_row (Subscription ∷ []) Nct (Given (OneOf 1 3)) Optional Optional false
    ∷ attr_row (Subscription ∷ []) Su (Given Label) Optional NotPermitted false
    ∷ attr_row (Subscription ∷ []) Exc (Given (OneOf 1 largest_count)) Optional Optional false
    ∷ attr_row announced_types Lnk (Given Label) Mandatory NotPermitted false
    ∷ []

-- ---- what follows from it

-- the row is for this attribute of this type
abbrev pub is_row_for : Ty → Attr → AttrRow → Bool
is_row_for ty attr row = is_attr attr row.attr && is_type_among ty row.types

-- what the table says of an attribute of a type
abbrev pub table_rule : Ty → Attr → Option Rule
table_rule ty attr = option_map (λ (row : AttrRow). row.rule) (find (is_row_for ty attr) attr_rows)

-- the kind of an attribute on announced resources: the original's, but that the AE-ID is a label
abbrev pub announced_kind : Kind → Kind
announced_kind Originator = Label
announced_kind kind = kind

-- where the value of an announced attribute comes from: from a request, the original's CSE's
abbrev pub announced_source : Source → Source
announced_source (Given kind) = Given (announced_kind kind)
announced_source (Assigned kind) = Given (announced_kind kind)
announced_source source = source

-- what follows for the announced attribute, where the original's can be announced
abbrev pub announced_rule : Rule → Option Rule
announced_rule r =
    if r.announced then Some (rule (announced_source r.source) Optional Optional false) else None

-- what follows from the original's row for an attribute of an announced type
abbrev pub inherited_rule : Ty → Attr → Option Rule
inherited_rule ty attr =
    option_and_then announced_rule
    (option_and_then (λ original. table_rule original attr) (original_of ty))

-- What is said of an attribute of a type: what the table says, and on an announced type what
-- follows from the original's.
abbrev pub rule_of : Ty → Attr → Option Rule
rule_of ty attr = option_or (table_rule ty attr) (inherited_rule ty attr)

-- The request has to name the attribute.
abbrev pub is_mandatory : Optionality → Bool
is_mandatory Mandatory = true
is_mandatory Optional = false
is_mandatory NotPermitted = false

-- The request may name the attribute.
abbrev pub is_permitted : Optionality → Bool
is_permitted Mandatory = true
is_permitted Optional = true
is_permitted NotPermitted = false

-- the attributes that a creation has to name, in the order of the table
abbrev pub mandatory_attrs : Ty → List Attr
mandatory_attrs ty =
    map (λ (row : AttrRow). row.attr)
    (filter (λ (row : AttrRow). is_mandatory row.rule.create && is_type_among ty row.types)
    attr_rows)
