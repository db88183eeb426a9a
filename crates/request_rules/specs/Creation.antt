-- What a Create makes (TS-0001, 9.6.1.3 and 10.2.1; TS-0004, 7.3.3 and 7.4).
use Rattle.std.specs.Prelude.{ℕ, pos, ◌+◌, min, nat_eq, nat_le, nat_lt, Bool, true, not}
use Rattle.std.specs.Prelude.{◌&&◌, ◌||◌, List, [], ◌∷◌, ◌++◌, length, codes, bytes_eq, Option}
use Rattle.std.specs.Prelude.{Some, unwrap_or, if◌then◌else◌}
use Rattle.std.specs.Fmt.{decimal}
use Rattle.std.specs.List.{starts_with}
use Rattle.std.specs.Option.{option_map_or}
use Rattle.m2m_names.specs.Attributes.{attr_short}
use Rattle.m2m_names.specs.Ids.{id_text}
use Rattle.m2m_names.specs.Name.{is_name}
use Rattle.m2m_names.specs.Types.{ty_row}
use Rattle.m2m_names.specs.declared.attributes.Attr.TheVariants.{Acpi, Aei, Con, Cr, Cs, Csi, Macp}
use Rattle.m2m_names.specs.declared.attributes.Attr.TheVariants.{Rn, St}
use Rattle.m2m_names.specs.declared.types.Ty.{Ty}
use Rattle.m2m_names.specs.declared.types.Ty.TheVariants.{Ae, Container, ContentInstance}
use Rattle.m2m_names.specs.declared.types.Ty.TheVariants.{Group, PollingChannel, RemoteCse}
use Rattle.m2m_value.specs.Data.{Entry, number, text}
use Rattle.m2m_value.specs.Shapes.{largest_count}
use Rattle.m2m_value.specs.Spelling.{capped, size_of}
use Rattle.m2m_value.specs.View.{member_of}
use Rattle.resource_model.specs.Attributes.{Row, count_at}
use Rattle.resource_model.specs.Resource.{ResourceData, is_ty}
use Rattle.tree_model.specs.Shown.{own_cse_id, with_rows}
use Rattle.tree_model.specs.Tree.{level_of, has_ae_id, has_channel, has_child, has_cse_id}
use Rattle.attribute_rules.specs.Admission.{is_named}
use Rattle.attribute_rules.specs.Contents.{named_text, wanted_in}
use Rattle.container_limits.specs.Limits.{is_within, limits_of}
use Rattle.entity_model.specs.Entity.{EntityData}
pub use Rattle.request_rules.specs.Asked.{Creation, creation_of}
use Rattle.request_rules.specs.Groups.{group_rows, membership_new}
use Rattle.request_rules.specs.Policies.{link_row}
use Rattle.request_rules.specs.Requests.{expiry_for}
use Rattle.entity_model.specs.Sound.{largest_size, greatest_depth, greatest_count}

-- ---- names and identifiers

-- the name: the one that is given, else the short word of the type, `_` and the number
abbrev pub own_name : Ty → ℕ → List ℕ
own_name ty n = (ty_row ty).word ++ codes "_" ++ decimal n

-- The name of a new resource of this type and number, by what the content names.
abbrev pub name_for : Ty → ℕ → List Entry → List ℕ
name_for ty n es = unwrap_or (named_text Rn es) (own_name ty n)

-- The name of the resource that a creation makes.
abbrev pub new_name : Creation → List ℕ
new_name c = name_for c.ty c.e.next c.named

-- what the AE-IDs begin with that the registrar gives, and those that the service provider gives
-- (TS-0001, 7.1.2)
abbrev pub c_stem : List ℕ
c_stem = codes "C"

abbrev pub s_stem : List ℕ
s_stem = codes "S"

-- an originator that is an AE-ID already: a name that begins with `C` or `S`, and more (TS-0001,
-- 7.1.2)
abbrev pub is_ae_id : List ℕ → Bool
is_ae_id originator =
    is_name originator && nat_lt 1 (length originator)
    && (starts_with nat_eq originator c_stem || starts_with nat_eq originator s_stem)

-- what an AE-ID begins with that the CSE gives: `S` where that is asked for, else `C`
abbrev pub ae_stem : List ℕ → List ℕ
ae_stem originator = if bytes_eq originator s_stem then s_stem else c_stem

-- the AE-ID of a new application entity: its originator, or a new one with its resource id
-- (TS-0001, 10.2.2.2)
abbrev pub ae_id_for : List ℕ → ℕ → List ℕ
ae_id_for originator n =
    if is_ae_id originator then originator else ae_stem originator ++ id_text Ae n

-- The AE-ID of the application entity that a creation makes (TS-0001, 10.2.2.2).
abbrev pub new_ae_id : Creation → List ℕ
new_ae_id c = ae_id_for c.originator c.e.next

-- who owns it: an application entity owns itself, and all else its originator
abbrev pub owner_for : List ℕ → Ty → ℕ → List ℕ
owner_for originator ty n = if is_ty ty Ae then ae_id_for originator n else originator

-- The owner of the resource that a creation makes.
abbrev pub new_owner : Creation → List ℕ
new_owner c = owner_for c.originator c.ty c.e.next

-- ---- what must not stand twice

-- an application entity has its AE-ID alone; a remote CSE has its CSE-ID alone, which isn't the own
-- one; and a polling channel stands alone under its parent (TS-0001, 7.1.2, 7.1.4 and 9.6.21)
abbrev pub is_free_cse_id : EntityData → List ℕ → Bool
is_free_cse_id e csi =
    not (has_cse_id (Some csi) e.nodes) && not (bytes_eq (own_cse_id e.home) csi)

-- Nothing is there already that a new resource of this type alone may be (TS-0001, 7.1.2, 7.1.4 and
-- 9.6.21).
abbrev pub is_single : Ty → Creation → Bool
is_single Ae c = not (has_ae_id (Some (new_ae_id c)) c.e.nodes)
is_single RemoteCse c = option_map_or (is_free_cse_id c.e) (named_text Csi c.named) true
is_single PollingChannel c = not (has_channel c.parent.number c.e.nodes)
is_single _ c = true

-- no sibling has its name, and nothing is what it alone may be (TS-0004, 7.3.3)
abbrev pub is_unique : Creation → Bool
is_unique c = not (has_child c.parent.number (new_name c) c.e.nodes) && is_single c.ty c

-- ---- limits

-- the size of a content in bytes, as far as it is counted (TS-0001, 9.6.7)
abbrev pub size_named : List Entry → ℕ
size_named es = option_map_or (λ d. capped (size_of d)) (member_of (attr_short Con) es) 0

-- The size of the content that a creation names, in bytes.
abbrev pub new_size : Creation → ℕ
new_size c = size_named c.named

-- below the bound, where there is one
abbrev pub is_below : ℕ → Option ℕ → Bool
is_below n bound = option_map_or (nat_lt n) bound true

-- the container takes an instance of this size: it may have one, of some age, and no limit on
-- sizes is passed (TS-0001, 9.6.6)
abbrev pub takes_instance : ResourceData → ℕ → Bool
takes_instance container size =
    nat_le size largest_size && is_within size (limits_of container).mbs
    && is_below 0 (limits_of container).mni && is_below 0 (limits_of container).mia

-- The creation makes no content instance, or one that the container takes (TS-0001, 9.6.6).
abbrev pub is_small : Creation → Bool
is_small c = not (is_ty c.ty ContentInstance) || takes_instance c.parent (new_size c)

-- the tree isn't full, a number is left, and the resource of the number, below which one more is to
-- stand, isn't at the greatest depth (the limits are the profile's)
abbrev pub has_place : EntityData → ℕ → Bool
has_place e parent =
    nat_lt (length e.nodes) greatest_count && nat_lt e.next largest_count
    && nat_lt (level_of parent e.nodes) greatest_depth

-- The entity has room for what is created, and its container takes an instance of its size.
abbrev pub has_room : Creation → Bool
has_room c = has_place c.e c.parent.number && is_small c

-- ---- the resource

-- the state tag after one more change, which stays at the greatest (TS-0001, 9.6.1.3.2)
abbrev pub next_state : ResourceData → ℕ
next_state r = min (unwrap_or (count_at St r.attrs) 0 + 1) largest_count

-- what the CSE gives the resource besides: an application entity its AE-ID; a container the state
-- tag that it begins with; an instance its size, and the state tag that its container has then; a
-- group its members, with what is known of them (TS-0001, 9.6.13)
abbrev pub given_rows : Ty → Creation → List Row
given_rows Ae c = (Aei, text (new_ae_id c)) ∷ []
given_rows Container c = (St, number (pos 0)) ∷ []
given_rows ContentInstance c =
    (Cs, number (pos (new_size c))) ∷ (St, number (pos (next_state c.parent))) ∷ []
given_rows Group c = group_rows c.e (membership_new c)
given_rows _ c = []

-- the originator, where `cr` asks for it
abbrev pub creator_rows : List ℕ → List Entry → List Row
creator_rows originator es = if is_named Cr es then (Cr, text originator) ∷ [] else []

-- what it keeps beside what the content gives it; the policies by their resource ids
abbrev pub rows_besides : Creation → List Row
rows_besides c =
    given_rows c.ty c ++ creator_rows c.originator c.named
    ++ link_row c.e c.named Acpi ++ link_row c.e c.named Macp

-- The attributes that a new resource keeps.
abbrev pub new_rows : Creation → List Row
new_rows c = with_rows (rows_besides c) (wanted_in c.named).attrs

-- The resource that a creation makes, with all its parts (TS-0001, 10.2.2).
abbrev pub new_resource : Creation → ResourceData
new_resource c = record {
  number = c.e.next;
  ty = c.ty;
  name = new_name c;
  parent = c.parent.number;
  owner = new_owner c;
  ct = c.e.last;
  lt = c.e.last;
  et = expiry_for c.named;
  attrs = new_rows c;
}
