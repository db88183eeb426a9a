use Rattle.std.proofs.Common.{◌≡◌, drop}
use Rattle.std.specs.List.{slice_get}
use Rattle.resource_store.specs.Slots.{held}
use Rattle.resource_store.specs.Store.{resources_of}
use Rattle.resource_store.proofs.order.nth_of.Given as goal

-- the one that is wanted of the rest is the one that is wanted of all
abbrev pub invariant-loop-number : goal.invariant-loop-number
invariant-loop-number l = slice_get (resources_of (drop l.number-index l.numbers) (held l.resources.table)) l.left ≡ slice_get (resources_of l.numbers (held l.resources.table)) l.k
