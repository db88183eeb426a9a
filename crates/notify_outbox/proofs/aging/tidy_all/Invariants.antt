use Rattle.std.proofs.Common.{◌≡◌, ◌≤◌, length, vec_capacity}
use Rattle.std.specs.List.{AllByRecursion}
use Rattle.notify_outbox.specs.Queues.{joined, IsQueue}
use Rattle.notify_outbox.proofs.aging.tidy_all.Given as goal

abbrev pub invariant-places : goal.invariant-places
invariant-places l =
    (joined l.queues.items ≡ joined l.initial.queues.items)
    × (AllByRecursion IsQueue l.initial.queues.items → AllByRecursion IsQueue l.queues.items)
    × (vec_capacity l.queues ≡ vec_capacity l.initial.queues)
    × (length l.queues.items ≤ length l.initial.queues.items)
    × (l.place ≤ length l.queues.items)

abbrev pub decreases-places : goal.decreases-places
decreases-places l = l.place
