use Rattle.std.proofs.Common.{None, []}
use Rattle.notify_outbox.specs.declared.queues.Queue.{Queue}
use Rattle.notify_outbox.proofs.QueueLemmas.{tidied}
use Rattle.notify_outbox.proofs.queues.tidy.Goals as goal

nothing : Queue
nothing = record { channel = None; items = [] }

pub returns-clause-same : goal.returns-clause-same
returns-clause-same c = (tidied c.args.queues.now.items c.remove-empty.new.self.items c.args.place nothing c.requires (c.is_filled_at.ensures c.if-is_filled_at.false nothing) c.remove-empty.ensures.by_index.2).0
