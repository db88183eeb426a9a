-- What a parent has to know of a resource that stands below it.
use Rattle.std.specs.Prelude.{◌≡◌, ◌<◌, ℕ, if◌then◌else◌}
use Rattle.m2m_names.specs.declared.types.Ty.TheVariants.{ContentInstance}
use Rattle.resource_model.specs.Resource.{ResourceData, is_ty}
use Rattle.tree_model.specs.Tree.{instance_size}
use Rattle.resource_store.specs.declared.kin_row.KinRow.{KinRow}

-- the size of an instance in bytes; other resources have none
abbrev pub row_size : ResourceData → ℕ
row_size r = if is_ty r.ty ContentInstance then instance_size r else 0

-- its number, that of its parent, its type, and its size
abbrev pub row_of : ResourceData → KinRow
row_of r = record { number = r.number; parent = r.parent; ty = r.ty; size = row_size r }

-- below 2 ^ 32 - 1, it is the size of the resource; what is greater tells nothing
abbrev pub IsSizeBeside : ℕ → ResourceData → Type 0
IsSizeBeside size r = size < 4294967295 → size ≡ row_size r
