use Rattle.resource_store.specs.Slots.{held}
use Rattle.resource_store.proofs.StoreLemmas.{empty_store}
use Rattle.resource_store.proofs.store.Store.new.Goals as goal

pub invariant_of-result : goal.invariant_of-result
invariant_of-result c = empty_store (held c.new.result.table) c.new-2.result.items c.new.ensures c.new-2.ensures.items
