-- The rules of a resource.
use Rattle.std.specs.Prelude.{ℕ, nat_le, nat_lt, ℤ, pos, negsuc, Bool}
use Rattle.std.specs.Prelude.{List, [], ◌∷◌, ◌++◌, length, map}
use Rattle.std.specs.Prelude.{Option, Some, None, option_and_then, unwrap_or, if◌then◌else◌}
use Rattle.std.specs.List.{filter_map, flat_map, list_any}
use Rattle.std.specs.Option.{option_map_or, option_or}
use Rattle.m2m_names.specs.declared.attributes.Attr.{Attr}
use Rattle.m2m_names.specs.declared.attributes.Attr.TheVariants.{Acpi, Macp, Pv, Pvs}
use Rattle.m2m_names.specs.declared.types.Ty.TheVariants.{AccessControlPolicy, ContentInstance}
use Rattle.m2m_names.specs.declared.types.Ty.TheVariants.{PollingChannel}
use Rattle.m2m_names.specs.declared.types.Ty.{Ty}
use Rattle.m2m_names.specs.Ids.{id_parts}
use Rattle.m2m_names.specs.Members.{acr_name, acor_name, acop_name}
use Rattle.m2m_names.specs.Name.{is_one_of}
use Rattle.m2m_names.specs.Operations.{all_bits}
use Rattle.m2m_value.specs.Data.{Data, number, text, list, object, elements_of, pairs_of}
use Rattle.m2m_value.specs.View.{as_list, as_number, as_object, as_text, member_of}
use Rattle.resource_model.specs.Attributes.{is_attr, value_of}
use Rattle.resource_model.specs.Resource.{ResourceData, is_ty, ae_id, cse_id}
use Rattle.tree_model.specs.Tree.{at, of_type, resource_of_id, typed_at}

-- ---- rules as they are written

-- whom a rule is for: the originators that its entries name, or the one of a full form
pub data Subjects : Type 0 where
  named : List (List ℕ) → Subjects
  only : List ℕ → Subjects

-- an access control rule: whom it is for, and the sum of the bits that it gives (TS-0001, 9.6.2.1)
pub record Rule : Type 0 where
  pub subjects : Subjects
  pub bits : ℕ

-- The rule that gives these originators the operations of these bits (TS-0001, 9.6.2.1).
abbrev pub rule_for : Subjects → ℕ → Rule
rule_for subjects bits = record { subjects = subjects; bits = bits }

-- a sum of the six bits; a number that is none gives nothing
abbrev pub sum_of_bits : ℤ → ℕ
sum_of_bits (pos n) = if nat_le n all_bits then n else 0
sum_of_bits (negsuc n) = 0

-- a rule that gives one originator, or everyone for `all`, these bits
abbrev pub written_rule : List ℕ → ℕ → Data
written_rule who bits =
    object (pairs_of (
    (acop_name, number (pos bits)) ∷ (acor_name, list (elements_of (text who ∷ []))) ∷ []))

-- the value of `pv` or `pvs` that has these rules
abbrev pub written_rules : List Data → Data
written_rules rules = object (pairs_of ((acr_name, list (elements_of rules)) ∷ []))

-- the member of an object
abbrev pub member_at : List ℕ → Data → Option Data
member_at key d = option_and_then (member_of key) (as_object d)

-- The member of an object as a whole number.
abbrev pub member_number : List ℕ → Data → Option ℤ
member_number key d = option_and_then as_number (member_at key d)

-- the elements of a list; of what is no list none
abbrev pub listed_in : Option Data → List Data
listed_in d = unwrap_or (option_and_then as_list d) []

-- the texts among values
abbrev pub texts_of : List Data → List (List ℕ)
texts_of ds = filter_map as_text ds

-- those of some texts that didn't stand before, each where it stands first
abbrev pub new_after : List (List ℕ) → List (List ℕ) → List (List ℕ)
new_after seen [] = []
new_after seen (one ∷ others) =
    if is_one_of seen one then new_after seen others
    else one ∷ new_after (seen ++ one ∷ []) others

-- the texts without repeats
abbrev pub each_once : List (List ℕ) → List (List ℕ)
each_once texts = new_after [] texts

-- a rule as it is written: its `acor` and its `acop` (TS-0004, 7.4.2)
abbrev pub stated_rule : Data → Rule
stated_rule d =
    rule_for (named (texts_of (listed_in (member_at acor_name d))))
    (option_map_or sum_of_bits (member_number acop_name d) 0)

-- the rules of `pv` or `pvs`: its `acr`
abbrev pub rules_in : Option Data → List Rule
rules_in d = map stated_rule (listed_in (option_and_then (member_at acr_name) d))

-- ---- the policies that a list of resource ids names

-- the number in the resource id of a policy, as 4 in `acp4`
abbrev pub policy_number : List ℕ → Option ℕ
policy_number id =
    option_and_then (λ (p : Ty × ℕ). if is_ty p.0 AccessControlPolicy then Some p.1 else None)
    (id_parts id)

-- the policy of a number
abbrev pub policy_at : List ResourceData → ℕ → Option ResourceData
policy_at nodes n = typed_at AccessControlPolicy n nodes

-- the policy that an id names
abbrev pub policy_named : List ResourceData → List ℕ → Option ResourceData
policy_named nodes id =
    option_and_then (of_type AccessControlPolicy) (resource_of_id id nodes)

-- The policy whose id the value is, as a text.
abbrev pub policy_of : List ResourceData → Data → Option ResourceData
policy_of nodes id = option_and_then (policy_named nodes) (as_text id)

-- The policies of the list that these ids name, in the order of the ids.
abbrev pub policies_of : List ResourceData → List Data → List ResourceData
policies_of nodes ids = filter_map (policy_of nodes) ids

-- The rules of policies by one of their two lists, `pv` or `pvs`, joined.
abbrev pub rules_by : Attr → List ResourceData → List Data → List Rule
rules_by attr nodes ids =
    flat_map (λ (p : ResourceData). rules_in (value_of attr p.attrs)) (policies_of nodes ids)

-- ---- the rules of a resource

-- one of these attributes
abbrev pub is_attr_in : List Attr → Attr → Bool
is_attr_in attrs a = list_any (is_attr a) attrs

-- the ids that an attribute of it lists; an empty list is as good as none
abbrev pub ids_at : Attr → ResourceData → List Data
ids_at attr r = listed_in (value_of attr r.attrs)

-- the ids of the policies that it names, to be judged by or to fan out by
abbrev pub linked_ids : ResourceData → List Data
linked_ids r = ids_at Acpi r ++ ids_at Macp r

-- an attribute lists at least one
abbrev pub lists_ids : Attr → ResourceData → Bool
lists_ids attr r = nat_lt 0 (length (ids_at attr r))

-- the owner has every right
abbrev pub owner_rules : ResourceData → List Rule
owner_rules r = rule_for (only r.owner) all_bits ∷ []

-- by `pv` or `pvs` of the policies that `acpi` names, or the owner's where it is absent or empty
-- (TS-0001, 9.6.1.3.2)
abbrev pub linked_rules : Attr → List ResourceData → ResourceData → List Rule
linked_rules attr nodes r =
    if lists_ids Acpi r then rules_by attr nodes (ids_at Acpi r) else owner_rules r

-- the AE-ID or CSE-ID of an application entity or of a remote CSE
abbrev pub registree : ResourceData → Option (List ℕ)
registree r = option_or (ae_id r) (cse_id r)

-- a polling channel is its parent's alone (TS-0001, 9.6.21)
abbrev pub channel_rules : ResourceData → List Rule
channel_rules parent =
    option_map_or (λ id. rule_for (only id) all_bits ∷ []) (registree parent) []

-- the rules of what stands above it, where something does
abbrev pub rules_above : (ResourceData → List Rule) → List ResourceData → ResourceData → List Rule
rules_above rules nodes r = option_map_or rules (at r.parent nodes) []

-- the rules by which a resource is judged (TS-0001, 9.6.2): a policy's are its own `pvs`, a content
-- instance's those of its container, a channel's that of its parent
abbrev pub rules_of : List ResourceData → ResourceData → List Rule
rules_of nodes r =
    if is_ty r.ty AccessControlPolicy then rules_in (value_of Pvs r.attrs) else
    if is_ty r.ty ContentInstance then rules_above (linked_rules Pv nodes) nodes r else
    if is_ty r.ty PollingChannel then rules_above channel_rules nodes r else linked_rules Pv nodes r

-- the rules by which a fan-out to a group is judged: by `macp`, or the group's own where it is
-- absent or empty (TS-0001, 9.6.13)
abbrev pub fan_rules : List ResourceData → ResourceData → List Rule
fan_rules nodes group =
    if lists_ids Macp group then rules_by Pv nodes (ids_at Macp group) else rules_of nodes group

-- the rules by which a change of `acpi` is judged: by `pvs` of the policies that it names as it
-- stands
abbrev pub link_rules : List ResourceData → ResourceData → List Rule
link_rules nodes r = linked_rules Pvs nodes r
