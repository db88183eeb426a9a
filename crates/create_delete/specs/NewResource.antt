-- What a resource has to be to come last in a sound entity, or to take the place of one (TS-0001,
-- 9.6).
use Rattle.std.specs.Prelude.{◌≡◌, ℕ, ◌<◌, bytes_eq, true, false, option_map, Some, IsTrue}
use Rattle.std.specs.Option.{option_map_or}
use Rattle.m2m_names.specs.Ids.{count_bound}
use Rattle.m2m_names.specs.declared.types.Ty.TheVariants.{ContentInstance, PollingChannel}
use Rattle.resource_model.specs.Resource.{ResourceData, is_ty, cse_id}
use Rattle.tree_model.specs.Tree.{at, fits_in, has_channel, is_due, instance_size, standing}
use Rattle.attribute_rules.specs.Kinds.{are_kinds}
use Rattle.request_rules.specs.Creation.{has_place, takes_instance}
use Rattle.entity_model.specs.Entity.{EntityData}
use Rattle.entity_model.specs.Sound.{has_free_name, has_known_ids, has_size, has_state_tag}
use Rattle.entity_model.specs.Sound.{keeps_order}
use Rattle.tree_model.specs.Shown.{own_cse_id}

-- It has the next number, and there is place for it. Its parent is there and takes it, its name,
-- its AE-ID and its CSE-ID are free, its name addresses nothing else, and its policies are known.
-- Its attributes are those of its type and stand in order, a container has its state tag, and it
-- isn't due yet. What its parent holds besides is said apart.
pub record IsNewResource (e : EntityData) (r : ResourceData) : Type 0 where
  pub number : r.number ≡ e.next
  pub room : IsTrue (has_place e r.parent)
  pub fits : IsTrue (fits_in e.nodes r)
  pub name : IsTrue (has_free_name r)
  pub ids : IsTrue (has_known_ids e.next r)
  pub kinds : IsTrue (are_kinds r)
  pub order : IsTrue (keeps_order r)
  pub tag : IsTrue (has_state_tag r)
  pub apart : option_map_or (bytes_eq (own_cse_id e.home)) (cse_id r) false ≡ false
  pub channel : is_ty r.ty PollingChannel ≡ true → has_channel r.parent e.nodes ≡ false
  pub size : IsTrue (has_size r)
  pub due : is_due e.nodes e.last r ≡ false

-- What an instance has to be besides: its parent is this container, which takes one of its size;
-- and this is a state tag, which the container has then (TS-0001, 9.6.6).
pub record IsNewInstance (e : EntityData) (r c : ResourceData) (st : ℕ) : Type 0 where
  pub new : IsNewResource e r
  pub instance : IsTrue (is_ty r.ty ContentInstance)
  pub container : at r.parent e.nodes ≡ Some c
  pub takes : IsTrue (takes_instance c (instance_size r))
  pub small : st < count_bound

-- What may take the place of the resource of its number: that one stands as this does, its policies
-- are known, its attributes are those of its type and stand in order, a container has its state
-- tag, and it expires later. No instance is changed (TS-0001, 10.2.4).
pub record IsReplacement (e : EntityData) (c : ResourceData) : Type 0 where
  pub stood : option_map standing (at c.number e.nodes) ≡ Some (standing c)
  pub ids : IsTrue (has_known_ids e.next c)
  pub kinds : IsTrue (are_kinds c)
  pub order : IsTrue (keeps_order c)
  pub tag : IsTrue (has_state_tag c)
  pub plain : is_ty c.ty ContentInstance ≡ false
  pub later : e.last < c.et
