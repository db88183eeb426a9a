use Rattle.notify_outbox.proofs.QueueLemmas.{pops_tidied}
use Rattle.notify_outbox.proofs.queues.pop.Goals as goal

pub returns-clause-popped : goal.returns-clause-popped
returns-clause-popped c = pops_tidied c.args.queues.now.items c.shift-item.new.queues.items c.tidy.new.queues.items c.args.place c.shift-item.result c.shift-item.ensures.popped c.tidy.ensures.same c.tidy.ensures.each
