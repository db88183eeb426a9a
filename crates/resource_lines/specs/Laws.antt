-- What is written of a resource is read back as it.
use Rattle.std.specs.Prelude.{◌≡◌, Some}
use Rattle.resource_model.specs.Attributes.{AreInOrder}
use Rattle.resource_model.specs.Resource.{IsResource, ResourceData}
use Rattle.resource_lines.specs.Read.{resource_in}
use Rattle.resource_lines.specs.Written.{resource_data}

-- of each resource whose attributes stand in their order
abbrev pub ResourcesAreReadBack : Type 0
ResourcesAreReadBack = (r : ResourceData) → IsResource r → AreInOrder r.attrs
    → resource_in (resource_data r) ≡ Some r
