-- The slots of a table by number.
use Rattle.std.specs.Prelude.{ℕ, nat_eq, Option, None, Some, if◌then◌else◌, option_and_then}
use Rattle.std.specs.HashMap.{HashMap, get}
use Rattle.resource_model.specs.Resource.{ResourceData}
use Rattle.resource_store.specs.declared.slot.Slot.{Slot}

-- the resource in a slot, unless it was taken out
abbrev pub seen : Slot → Option ResourceData
seen slot = if slot.is_gone then None else Some slot.resource

-- the resource that a number has
abbrev pub held : {S : Type 0} → HashMap ℕ Slot S → ℕ → Option ResourceData
held table number = option_and_then seen (get nat_eq table number)
