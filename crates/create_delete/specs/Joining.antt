-- When a creation may be done, and what may join an entity.
use Rattle.std.specs.Prelude.{◌≡◌, ℕ, List, [], true, false, Option, Some, None, IsTrue}
use Rattle.std.specs.Option.{option_map_or}
use Rattle.m2m_names.specs.Types.{does_take}
use Rattle.m2m_names.specs.declared.types.Ty.TheVariants.{ContentInstance}
use Rattle.m2m_value.specs.Node.{AreSorted}
use Rattle.resource_model.specs.Resource.{ResourceData, is_ty}
use Rattle.tree_model.specs.Tree.{at, instance_size}
use Rattle.attribute_rules.specs.Admission.{are_admitted}
use Rattle.attribute_rules.specs.declared.table.Writing.TheVariants.{Create}
use Rattle.entity_model.specs.Entity.{EntityData}
use Rattle.entity_model.specs.Sound.{IsSoundEntity}
use Rattle.request_rules.specs.Creation.{Creation, has_room, is_unique}
use Rattle.request_rules.specs.Groups.{are_few, membership_new}
use Rattle.request_rules.specs.Order.{expires_later}
use Rattle.request_rules.specs.Policies.{links_live}
use Rattle.create_delete.specs.Changing.{pushed_out}
use Rattle.create_delete.specs.NewResource.{IsNewInstance, IsNewResource}
use Rattle.create_delete.specs.declared.joining.ContainerUpdate.{ContainerUpdate}

-- What holds of a creation that no place refuses: its parent is there and takes it, what it names
-- stands in the order of names and is admitted, nothing that it alone may be stands there, no limit
-- is passed, and a group's members are few.
pub record IsAllowed (c : Creation) : Type 0 where
  pub parent : at c.parent.number c.e.nodes ≡ Some c.parent
  pub takes : IsTrue (does_take c.parent.ty c.ty)
  pub sorted : AreSorted c.named
  pub admitted : IsTrue (are_admitted Create c.ty c.named)
  pub later : IsTrue (expires_later c.e c.named)
  pub live : IsTrue (links_live c.e c.named)
  pub unique : IsTrue (is_unique c)
  pub room : IsTrue (has_room c)
  pub few : IsTrue (option_map_or are_few (membership_new c) true)

-- The instance may join, and these are its container, the state tag that this has then, and what it
-- pushes out.
pub record MayJoinContainer (e : EntityData) (r : ResourceData) (f : ContainerUpdate) : Type 0 where
  pub parent : ResourceData
  pub joins : IsNewInstance e r parent f.state
  pub container : f.container ≡ r.parent
  pub gone : f.gone ≡ pushed_out e parent (Some (instance_size r))

-- what an instance does besides, and that any other resource does nothing
abbrev pub MayJoin : EntityData → ResourceData → Option ContainerUpdate → Type 0
MayJoin e r None = IsNewResource e r × (is_ty r.ty ContentInstance ≡ false)
MayJoin e r (Some f) = MayJoinContainer e r f

-- the numbers of what is pushed out
abbrev pub gone_by : Option ContainerUpdate → List ℕ
gone_by None = []
gone_by (Some f) = f.gone

-- A sound entity has these resources at this moment, and the resource may join it so.
pub record JoinsAt (moment : ℕ) (nodes : List ResourceData) (r : ResourceData)
    (f : Option ContainerUpdate) : Type 0 where
  pub entity : EntityData
  pub stand : entity.nodes ≡ nodes
  pub last : entity.last ≡ moment
  pub sound : IsSoundEntity entity
  pub may : MayJoin entity r f
