-- Which entities are sound: what holds of an entity at every moment.
use Rattle.std.specs.Prelude.{◌≡◌, ℕ, ◌≤◌, nat_le, nat_lt, Bool, true, false, not, ◌&&◌}
use Rattle.std.specs.Prelude.{◌||◌, List, [], ◌∷◌, length, is_some}
use Rattle.std.specs.Prelude.{option_and_then, IsTrue}
use Rattle.std.specs.FinMap.Entries.{is_sorted}
use Rattle.std.specs.List.{filter_map, list_all, list_any}
use Rattle.std.specs.Option.{option_map_or}
use Rattle.std.specs.Str.{bytes_eq}
use Rattle.m2m_names.specs.declared.attributes.Attr.TheVariants.{St}
use Rattle.m2m_names.specs.declared.types.Ty.TheVariants.{Container, ContentInstance, CseBase}
use Rattle.m2m_value.specs.Data.{Data}
use Rattle.m2m_value.specs.Shapes.{largest_count}
use Rattle.m2m_value.specs.View.{as_text}
use Rattle.resource_model.specs.Attributes.{attr_cmp, value_of}
use Rattle.resource_model.specs.Home.{HomeData, IsHome}
use Rattle.resource_model.specs.Resource.{ResourceData, is_ty, cse_id}
pub use Rattle.resource_model.specs.Resource.{has_free_name}
use Rattle.tree_model.specs.Shown.{own_cse_id}
use Rattle.tree_model.specs.Tree.{channels_of, instances_of, instance_size, sizes_of, level_of}
use Rattle.tree_model.specs.Tree.{are_below, have_free_names, is_well_formed}
use Rattle.attribute_rules.specs.Kinds.{are_kinds}
use Rattle.container_limits.specs.Limits.{are_within, limits_of}
use Rattle.policy_eval.specs.Rules.{policy_number, linked_ids}
use Rattle.notify_outbox.specs.Items.{still_waits}
use Rattle.notify_outbox.specs.declared.item.Item.{Item}
use Rattle.entity_model.specs.Entity.{EntityData, last_reading}
use Rattle.entity_model.specs.Expiry.{is_some_due}

-- ---- numbers

-- where an id spells a policy's number, that number is below this one
abbrev pub is_known_id : ℕ → Data → Bool
is_known_id next id =
    option_map_or (λ n. nat_lt n next) (option_and_then policy_number (as_text id)) true

-- the number of every policy that a resource names, to be judged by or to fan out by, was given out
abbrev pub has_known_ids : ℕ → ResourceData → Bool
has_known_ids next r = list_all (is_known_id next) (linked_ids r)

-- ---- sizes and counts

-- the greatest size of a content instance, in bytes
abbrev pub largest_size : ℕ
largest_size = 1048576

-- The resource is no larger than the greatest size, where it is a content instance.
abbrev pub has_size : ResourceData → Bool
has_size r = not (is_ty r.ty ContentInstance) || nat_le (instance_size r) largest_size

-- how deep a resource stands at most, and how many resources there are at most
abbrev pub greatest_depth : ℕ
greatest_depth = 32

abbrev pub greatest_count : ℕ
greatest_count = 100000

-- The resource stands no deeper than the limit allows.
abbrev pub is_shallow : List ResourceData → ResourceData → Bool
is_shallow nodes r = nat_le (level_of r.number nodes) greatest_depth

-- The instances of a container are within its `mni` and its `mbs` (TS-0001, 9.6.6). So the longest
-- run of the newest of them that is within both is all of them.
abbrev pub is_within_limits : List ResourceData → ResourceData → Bool
is_within_limits nodes r =
    not (is_ty r.ty Container)
    || are_within (limits_of r) (length (instances_of r.number nodes)) (sizes_of r.number nodes)

-- a container counts its changes (TS-0001, 9.6.6)
abbrev pub has_state_tag : ResourceData → Bool
has_state_tag r = not (is_ty r.ty Container) || is_some (value_of St r.attrs)

-- ---- the order of attributes

-- The attributes of the resource stand in byte order of their short names, and so each stands once
-- (TS-0004, 8.2.3).
abbrev pub keeps_order : ResourceData → Bool
keeps_order r = is_sorted attr_cmp r.attrs

-- ---- who stands once

-- the list begins with the CSEBase, named by the home's base name
abbrev pub begins_with_base : HomeData → List ResourceData → Bool
begins_with_base home [] = false
begins_with_base home (r ∷ nodes) = is_ty r.ty CseBase && bytes_eq r.name home.base

-- the own CSE-ID and those of all remote CSEs
abbrev pub cse_ids : HomeData → List ResourceData → List (List ℕ)
cse_ids home nodes = own_cse_id home ∷ filter_map cse_id nodes

-- no text stands twice
abbrev pub are_distinct : List (List ℕ) → Bool
are_distinct [] = true
are_distinct (s ∷ texts) = not (list_any (bytes_eq s) texts) && are_distinct texts

-- The resource has at most one polling channel (TS-0001, 9.6.21); only an AE and a remote CSE take
-- one.
abbrev pub has_one_channel : List ResourceData → ResourceData → Bool
has_one_channel nodes r = nat_le (length (channels_of r.number nodes)) 1

-- ---- the outbox

-- the item was appended by a moment, and hasn't waited the keeping time then
abbrev pub is_waiting : ℕ → Item → Bool
is_waiting moment item = nat_le item.since moment && still_waits moment item

-- each was appended at this moment or later
abbrev pub are_from : ℕ → List Item → Bool
are_from since items = list_all (λ (i : Item). nat_le since i.since) items

-- the moments at which they were appended don't fall along the list
abbrev pub do_not_fall : List Item → Bool
do_not_fall [] = true
do_not_fall (item ∷ items) = are_from item.since items && do_not_fall items

-- ---- soundness

-- the first resource, the CSEBase, isn't picked
abbrev pub spares_first : (ResourceData → Bool) → List ResourceData → Bool
spares_first picks [] = true
spares_first picks (r ∷ nodes) = not (picks r)

-- what holds of an entity at every moment
pub record IsSoundEntity (e : EntityData) : Type 0 where
  -- numbers are given out in order, and none twice
  pub numbers : IsTrue (are_below e.next e.nodes)
  pub next : e.next ≤ largest_count
  pub ids : IsTrue (list_all (has_known_ids e.next) e.nodes)
  -- the resources are a tree, each under a type that takes it
  pub tree : IsTrue (is_well_formed e.nodes)
  pub base : IsTrue (begins_with_base e.home e.nodes)
  -- each has a name that addresses nothing else, and the home is one
  pub names : IsTrue (have_free_names e.nodes)
  pub home : IsHome e.home
  pub depth : IsTrue (list_all (is_shallow e.nodes) e.nodes)
  pub count : length e.nodes ≤ greatest_count
  -- each resource keeps attributes of its type, with values of their kinds, in order
  pub kinds : IsTrue (list_all are_kinds e.nodes)
  pub order : IsTrue (list_all keeps_order e.nodes)
  -- each container has its state tag
  pub tags : IsTrue (list_all has_state_tag e.nodes)
  -- CSE-IDs differ from each other and from the own one, and no resource has two polling channels
  pub cses : IsTrue (are_distinct (cse_ids e.home e.nodes))
  pub channels : IsTrue (list_all (has_one_channel e.nodes) e.nodes)
  -- instances are small, and no more than their container allows
  pub sizes : IsTrue (list_all has_size e.nodes)
  pub limits : IsTrue (list_all (is_within_limits e.nodes) e.nodes)
  -- nothing is due at the last moment
  pub last : e.last ≤ last_reading
  pub due : is_some_due e.nodes e.last ≡ false
  -- the items stand in the order of their moments, and none has waited too long
  pub waiting : IsTrue (list_all (is_waiting e.last) e.items)
  pub moments : IsTrue (do_not_fall e.items)
