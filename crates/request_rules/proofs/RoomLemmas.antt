-- What the tests of a creation say: that what is created stands alone, and that there is room for it.
use Rattle.std.specs.Prelude.{nat_le, nat_lt}
use Rattle.std.proofs.Common.{◌≡◌, ℕ, ◌<◌, ◌≤◌, List, length, Some, true, false, not, ◌&&◌, bytes_eq}
use Rattle.std.proofs.lemmas.Bool.{and_parts, leb-true, ltb-true, not-true}
use Rattle.m2m_value.specs.Shapes.{largest_count}
use Rattle.resource_model.specs.Resource.{ResourceData}
use Rattle.tree_model.specs.Shown.{own_cse_id}
use Rattle.tree_model.specs.Tree.{has_child, has_cse_id, level_of}
use Rattle.container_limits.specs.Limits.{is_within, limits_of}
use Rattle.entity_model.specs.Entity.{EntityData}
use Rattle.entity_model.specs.Sound.{greatest_count, greatest_depth, largest_size}
use Rattle.request_rules.specs.Creation.{Creation, has_place, has_room, is_below, is_free_cse_id, is_single, is_small, is_unique, new_name, takes_instance}

-- ---- what must not stand twice

-- no sibling has its name, and nothing is what it alone may be
pub record StandsAlone (c : Creation) : Type 0 where
  pub name : has_child c.parent.number (new_name c) c.e.nodes ≡ false
  pub single : is_single c.ty c ≡ true

pub unique_parts : (c : Creation) → is_unique c ≡ true → StandsAlone c
unique_parts c is =
    let parts = and_parts (not (has_child c.parent.number (new_name c) c.e.nodes)) (is_single c.ty c) is in
    record { name = not-true _ parts.0; single = parts.1 }

-- a CSE-ID that no remote CSE has, and that isn't the own one
pub record IsFreeCseId (e : EntityData) (csi : List ℕ) : Type 0 where
  pub free : has_cse_id (Some csi) e.nodes ≡ false
  pub foreign : bytes_eq (own_cse_id e.home) csi ≡ false

pub free_cse_id_parts : (e : EntityData) (csi : List ℕ) → is_free_cse_id e csi ≡ true → IsFreeCseId e csi
free_cse_id_parts e csi is =
    let parts = and_parts (not (has_cse_id (Some csi) e.nodes)) (not (bytes_eq (own_cse_id e.home) csi)) is in
    record { free = not-true _ parts.0; foreign = not-true _ parts.1 }

-- ---- limits

-- there is place for one more resource below that of the number
pub record HasPlace (e : EntityData) (parent : ℕ) : Type 0 where
  pub count : length e.nodes < greatest_count
  pub few : e.next < largest_count
  pub depth : level_of parent e.nodes < greatest_depth

pub place_parts : (e : EntityData) (parent : ℕ) → has_place e parent ≡ true → HasPlace e parent
place_parts e parent place =
    let a = and_parts (nat_lt (length e.nodes) greatest_count && nat_lt e.next largest_count) (nat_lt (level_of parent e.nodes) greatest_depth) place in
    let b = and_parts (nat_lt (length e.nodes) greatest_count) (nat_lt e.next largest_count) a.0 in
    record { count = ltb-true _ _ b.0; few = ltb-true _ _ b.1; depth = ltb-true _ _ a.1 }

-- the container takes an instance of so many bytes
pub record TakesInstance (container : ResourceData) (size : ℕ) : Type 0 where
  pub largest : size ≤ largest_size
  pub bytes : is_within size (limits_of container).mbs ≡ true
  pub count : is_below 0 (limits_of container).mni ≡ true
  pub age : is_below 0 (limits_of container).mia ≡ true

pub takes_parts : (container : ResourceData) (size : ℕ) → takes_instance container size ≡ true → TakesInstance container size
takes_parts container size takes =
    let l = limits_of container in
    let a = and_parts ((nat_le size largest_size && is_within size l.mbs) && is_below 0 l.mni) (is_below 0 l.mia) takes in
    let b = and_parts (nat_le size largest_size && is_within size l.mbs) (is_below 0 l.mni) a.0 in
    let d = and_parts (nat_le size largest_size) (is_within size l.mbs) b.0 in
    record { largest = leb-true size largest_size d.0; bytes = d.1; count = b.1; age = a.1 }

-- there is room for what is created, and its container takes its size
pub record HasRoom (c : Creation) : Type 0 where
  pub place : has_place c.e c.parent.number ≡ true
  pub small : is_small c ≡ true

pub room_parts : (c : Creation) → has_room c ≡ true → HasRoom c
room_parts c room =
    let parts = and_parts (has_place c.e c.parent.number) (is_small c) room in
    record { place = parts.0; small = parts.1 }
