use Rattle.std.proofs.Common.{length}
use Rattle.resource_store.specs.Slots.{held}
use Rattle.resource_store.specs.Store.{KeepsPresent}
use Rattle.resource_store.proofs.order.let_gaps_go.Given as goal

-- only gaps have gone
abbrev pub invariant-loop : goal.invariant-loop
invariant-loop l = KeepsPresent (held l.resources.table) l.fn.order.items l.order.items

abbrev pub decreases-loop : goal.decreases-loop
decreases-loop l = length l.order.items
