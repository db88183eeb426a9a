use Rattle.std.proofs.Common.{◌≤◌, length, arith}
use Rattle.notify_outbox.specs.Queues.{joined}
use Rattle.notify_outbox.proofs.QueueLemmas.{put_there, short_at}
use Rattle.notify_outbox.proofs.queues.put_at.Goals as goal

pub join-requires : goal.join-requires
join-requires c =
    let short : length c.index_mut-queue.result.now.items ≤ length (joined c.args.queues.now.items) = short_at c.args.queues.now.items c.args.place c.index_mut-queue.result.now c.requires.within c.index_mut-queue.ensures.value in
    let room = c.requires.short in
    omega arith

pub returns-clause-put : goal.returns-clause-put
returns-clause-put c = put_there c.args.queues.now.items c.args.place c.index_mut-queue.result.now c.join.new.queue c.args.node c.requires.within c.index_mut-queue.ensures.value c.join.ensures.channel c.join.ensures.items
