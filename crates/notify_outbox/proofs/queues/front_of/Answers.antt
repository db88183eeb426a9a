use Rattle.notify_outbox.proofs.QueueLemmas.{first_taken}
use Rattle.notify_outbox.proofs.queues.front_of.Goals as goal

pub returns : goal.returns
returns c = first_taken c.args.queue.now.items c.in-Some.item.now c.requires c.in-Some.ensures.lookup
