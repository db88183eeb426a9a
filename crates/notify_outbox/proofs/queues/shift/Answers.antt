use Rattle.notify_outbox.proofs.QueueLemmas.{filled_at, pop_there}
use Rattle.notify_outbox.proofs.queues.shift.Goals as goal

pub first_of-requires : goal.first_of-requires
first_of-requires c = filled_at c.args.queues.now.items c.args.place c.index_mut-queue.result.now c.index_mut-queue.ensures.value c.requires.some

pub returns-clause-popped : goal.returns-clause-popped
returns-clause-popped c = pop_there c.args.queues.now.items c.args.place c.index_mut-queue.result.now c.first_of.new.queue c.first_of.result c.requires.within c.index_mut-queue.ensures.value c.first_of.ensures.channel c.first_of.ensures.items
