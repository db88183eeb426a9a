use Rattle.notify_outbox.proofs.QueueLemmas.{filled_at, front_there}
use Rattle.notify_outbox.proofs.queues.front_at.Goals as goal

pub front_of-requires : goal.front_of-requires
front_of-requires c = filled_at c.args.queues.now.items c.args.place c.index.result.now c.index.ensures c.requires.some

pub returns : goal.returns
returns c = front_there c.args.queues.now.items c.args.place c.index.result.now c.front_of.result.now c.requires.within c.index.ensures c.front_of.ensures
