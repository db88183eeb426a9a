-- The members that a group is to have (TS-0001, 9.6.13): which texts may name one, how many there
-- may be, of which type they are, and what the group keeps of them.
use Rattle.std.specs.Prelude.{ℕ, pos, ◌==◌, nat_le, min, Bool, true, false, not, ◌&&◌, ◌||◌, List}
use Rattle.std.specs.Prelude.{[], ◌∷◌, filter, map, length, is_some, Option, Some}
use Rattle.std.specs.Prelude.{None, option_and_then, unwrap_or, if◌then◌else◌, Result, Ok, Err}
use Rattle.std.specs.List.{list_all, list_any}
use Rattle.std.specs.Option.{option_map_or, option_or}
use Rattle.m2m_names.specs.Attributes.{attr_short}
use Rattle.m2m_names.specs.Types.{ty_row}
use Rattle.m2m_names.specs.declared.attributes.Attr.{Attr}
use Rattle.m2m_names.specs.declared.attributes.Attr.TheVariants.{Cnm, Csy, Mid, Mnm, Mt, Mtv}
use Rattle.m2m_names.specs.declared.types.Ty.{Ty}
use Rattle.m2m_names.specs.declared.types.Ty.TheVariants.{Group}
use Rattle.m2m_value.specs.Data.{Data, Entry, boolean, elements_of, list, number, text}
use Rattle.m2m_value.specs.Shapes.{as_count, is_text_of}
use Rattle.m2m_value.specs.View.{member_of}
use Rattle.resource_model.specs.Attributes.{Row, count_at, value_of}
use Rattle.resource_model.specs.Home.{HomeData}
use Rattle.resource_model.specs.Resource.{ResourceData, is_ty}
use Rattle.tree_model.specs.Tree.{at}
use Rattle.addressing.specs.Addresses.{address_of}
use Rattle.addressing.specs.Laws.{spot_named}
use Rattle.addressing.specs.Names.{spot_resource}
use Rattle.addressing.specs.declared.addr.Addr.{Addr}
use Rattle.addressing.specs.declared.addr.Addr.TheVariants.{Local, Foreign, OtherProvider}
use Rattle.addressing.specs.declared.addr.AddrFault.{AddrFault}
use Rattle.attribute_rules.specs.Admission.{is_named}
use Rattle.policy_eval.specs.Rules.{each_once, listed_in, texts_of}
pub use Rattle.policy_eval.specs.Rules.{new_after}
use Rattle.entity_model.specs.Entity.{EntityData}
use Rattle.request_rules.specs.Asked.{Creation}
use Rattle.request_rules.specs.Policies.{listed}
use Rattle.request_rules.specs.declared.membership.Membership.{Membership}

-- ---- what is asked for

-- the number that stands for any type of member (the profile's), and those for what becomes of
-- members of another type: they are left out, the group is refused, or it is one of any type
-- (TS-0004, 6.3.4.2.10)
abbrev pub any_type : ℕ
any_type = 0

abbrev pub abandon_member : ℕ
abandon_member = 1

abbrev pub abandon_group : ℕ
abandon_group = 2

abbrev pub set_mixed : ℕ
set_mixed = 3

-- the members that an operation asks a group to have: the values that name them, how many there may
-- be, the number of their type, and what becomes of those of another one
pub record MembershipData : Type 0 where
  pub values : List Data
  pub most : ℕ
  pub of_type : ℕ
  pub strategy : ℕ

-- what is asked for, as the code lends it
abbrev pub membership_of : Membership → MembershipData
membership_of m = record {
  values = m.values.now;
  most = m.most;
  of_type = m.of_type;
  strategy = m.strategy;
}

-- the count that a content names at an attribute
abbrev pub count_named : Attr → List Entry → Option ℕ
count_named attr es = option_and_then as_count (member_of (attr_short attr) es)

-- by a Create that names these attributes
abbrev pub members_wanted : List Entry → MembershipData
members_wanted es = record {
  values = listed Mid es;
  most = unwrap_or (count_named Mnm es) 0;
  of_type = unwrap_or (count_named Mt es) any_type;
  strategy = unwrap_or (count_named Csy es) abandon_member;
}

-- by an Update of a group: what it doesn't name stays
abbrev pub members_edited : ResourceData → List Entry → MembershipData
members_edited group es = record {
  values = if is_named Mid es then listed Mid es else listed_in (value_of Mid group.attrs);
  most = unwrap_or (option_or (count_named Mnm es) (count_at Mnm group.attrs)) 0;
  of_type = unwrap_or (count_at Mt group.attrs) any_type;
  strategy = unwrap_or (count_at Csy group.attrs) abandon_member;
}

-- a Create asks for members where it is that of a group
abbrev pub membership_by : Ty → List Entry → Option MembershipData
membership_by ty es = if is_ty ty Group then Some (members_wanted es) else None

-- The members that a creation asks for.
abbrev pub membership_new : Creation → Option MembershipData
membership_new c = membership_by c.ty c.named

-- and an Update of a group where it names them, or how many there may be
abbrev pub does_edit_members : ResourceData → List Entry → Bool
does_edit_members r es = is_ty r.ty Group && (is_named Mid es || is_named Mnm es)

abbrev pub membership_edited : ResourceData → List Entry → Option MembershipData
membership_edited r es = if does_edit_members r es then Some (members_edited r es) else None

-- ---- which texts may name a member

-- an address here, or one on another CSE of the own provider (that others aren't admitted is the
-- profile's)
abbrev pub is_of_own_provider : Result Addr AddrFault → Bool
is_of_own_provider (Ok (Local segments)) = true
is_of_own_provider (Ok (Foreign address)) = true
is_of_own_provider (Ok OtherProvider) = false
is_of_own_provider (Err fault) = false

-- The text is such an address.
abbrev pub may_be_member : HomeData → List ℕ → Bool
may_be_member home address = is_of_own_provider (address_of home address)

-- Each value is such a text.
abbrev pub are_addresses : HomeData → List Data → Bool
are_addresses home values = list_all (is_text_of (may_be_member home)) values

-- where members are asked for, each may be one
abbrev pub have_addresses : HomeData → Option MembershipData → Bool
have_addresses home m = option_map_or (λ (x : MembershipData). are_addresses home x.values) m true

-- ---- how many there are

-- the texts among values, without repeats
abbrev pub distinct_texts : List Data → List (List ℕ)
distinct_texts values = each_once (texts_of values)

-- how many members a group has at most (the profile's)
abbrev pub greatest_members : ℕ
greatest_members = 64

-- how many are admitted
abbrev pub member_limit : MembershipData → ℕ
member_limit m = min m.most greatest_members

-- The members aren't more than are admitted.
abbrev pub are_few : MembershipData → Bool
are_few m = nat_le (length (distinct_texts m.values)) (member_limit m)

-- ---- of which type they are

-- the live resource that a member names; a fan-out point and a poll point are none
abbrev pub member_named : EntityData → List ℕ → Option ResourceData
member_named e address =
    option_and_then (λ (n : ℕ). at n e.nodes)
    (option_and_then spot_resource (spot_named e.home address e.nodes))

-- The resource is of another type than this one, which isn't any.
abbrev pub differs_from : ℕ → ResourceData → Bool
differs_from of_type r = not ((ty_row r.ty).number == of_type)

-- The member names a live resource of another type.
abbrev pub is_of_other_type : EntityData → ℕ → List ℕ → Bool
is_of_other_type e of_type address =
    not (of_type == any_type) && option_map_or (differs_from of_type) (member_named e address) false

-- one of the members does
abbrev pub has_other_type : EntityData → MembershipData → Bool
has_other_type e m = list_any (is_of_other_type e m.of_type) (distinct_texts m.values)

-- None does, or that doesn't refuse the group.
abbrev pub is_consistent : EntityData → MembershipData → Bool
is_consistent e m = not (m.strategy == abandon_group) || not (has_other_type e m)

-- where members are asked for, nothing speaks against them
abbrev pub admits_members : EntityData → Option MembershipData → Bool
admits_members e m =
    have_addresses e.home m && option_map_or are_few m true
    && option_map_or (is_consistent e) m true

-- ---- what the group keeps

-- the member is left out: it names a live resource of another type, and such members are left out
abbrev pub is_left_out : EntityData → MembershipData → List ℕ → Bool
is_left_out e m address =
    (m.strategy == abandon_member) && is_of_other_type e m.of_type address

-- those of these addresses that stay
abbrev pub kept_among : EntityData → MembershipData → List (List ℕ) → List (List ℕ)
kept_among e m texts = filter (λ (address : List ℕ). not (is_left_out e m address)) texts

-- its members
abbrev pub members_kept : EntityData → MembershipData → List (List ℕ)
members_kept e m = kept_among e m (distinct_texts m.values)

-- the number of their type: any, where one of another type makes the group one of any
abbrev pub type_kept : EntityData → MembershipData → ℕ
type_kept e m =
    if (m.strategy == set_mixed) && has_other_type e m then any_type else m.of_type

-- the member names a live resource
abbrev pub is_live_member : EntityData → List ℕ → Bool
is_live_member e address = is_some (member_named e address)

-- each of its members does, so their types are known
abbrev pub are_validated : EntityData → MembershipData → Bool
are_validated e m = list_all (is_live_member e) (members_kept e m)

-- the attributes in which it keeps them
abbrev pub member_rows : EntityData → MembershipData → List Row
member_rows e m =
    (Mid, list (elements_of (map text (members_kept e m))))
    ∷ (Mt, number (pos (type_kept e m)))
    ∷ (Csy, number (pos m.strategy))
    ∷ (Cnm, number (pos (length (members_kept e m))))
    ∷ (Mtv, boolean (are_validated e m))
    ∷ []

-- where members are asked for; else there are none of these attributes to keep
abbrev pub group_rows : EntityData → Option MembershipData → List Row
group_rows e m = option_map_or (member_rows e) m []
