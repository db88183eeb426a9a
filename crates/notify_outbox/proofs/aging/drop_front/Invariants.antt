use Rattle.std.proofs.Common.{◌≡◌, length}
use Rattle.notify_outbox.specs.Queues.{fresh}
use Rattle.notify_outbox.proofs.aging.drop_front.Given as goal

abbrev pub invariant-front : goal.invariant-front
invariant-front l = fresh l.limit l.items ≡ fresh l.limit l.initial.items

abbrev pub decreases-front : goal.decreases-front
decreases-front l = length l.items
