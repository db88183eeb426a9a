use Rattle.resource_tree.proofs.QueueLemmas.{none_ascend}
use Rattle.resource_tree.proofs.queue.Queue.new.Goals as goal

pub invariant_of-result : goal.invariant_of-result
invariant_of-result c = none_ascend c.new.result.items c.new.ensures.items
