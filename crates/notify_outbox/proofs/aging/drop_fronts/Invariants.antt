use Rattle.std.proofs.Common.{◌≡◌, ◌++◌, ◌-◌, length, map, take, drop, vec_capacity}
use Rattle.notify_outbox.specs.Queues.{freshened}
use Rattle.notify_outbox.proofs.aging.drop_fronts.Given as goal

abbrev pub invariant-each : goal.invariant-each
invariant-each l =
    (l.queues.items ≡ map (freshened l.limit) (take l.place l.initial.queues.items) ++ drop l.place l.initial.queues.items)
    × (length l.queues.items ≡ length l.initial.queues.items)
    × (vec_capacity l.queues ≡ vec_capacity l.initial.queues)

abbrev pub decreases-each : goal.decreases-each
decreases-each l = length l.queues.items - l.place
