use Rattle.std.proofs.Common.{◌≡◌, take}
use Rattle.notify_outbox.proofs.copying.copied_queues.Given as goal

-- the copies are those of the queues so far
abbrev pub invariant-loop-queue : goal.invariant-loop-queue
invariant-loop-queue l = l.copies.items ≡ take l.queue-index l.queues
