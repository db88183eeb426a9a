use Rattle.std.proofs.Common.{◌≡◌, ◌+◌, length, drop}
use Rattle.notify_outbox.specs.Queues.{joined}
use Rattle.notify_outbox.proofs.queues.count_all.Given as goal

abbrev pub invariant-loop-queue : goal.invariant-loop-queue
invariant-loop-queue l = l.count + length (joined (drop l.queue-index l.queues)) ≡ length (joined l.queues)
