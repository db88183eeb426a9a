-- What stays of an entity where a resource joins it.
use Rattle.std.proofs.Common.{◌≡◌, Option, Some, None, refl}
use Rattle.resource_model.specs.Resource.{ResourceData}
use Rattle.entity_model.specs.Entity.{EntityData}
use Rattle.create_delete.specs.Changing.{after_joining}
use Rattle.create_delete.specs.declared.joining.ContainerUpdate.{ContainerUpdate}

pub joined_last : (e : EntityData) (r : ResourceData) (f : Option ContainerUpdate) → (after_joining e r f).last ≡ e.last
joined_last e r None = refl
joined_last e r (Some f) = refl
