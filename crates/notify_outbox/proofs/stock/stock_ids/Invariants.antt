use Rattle.std.proofs.Common.{◌≤◌, ◌-◌, length}
use Rattle.notify_outbox.specs.Queues.{AreIds}
use Rattle.notify_outbox.proofs.stock.stock_ids.Given as goal

abbrev pub invariant-more : goal.invariant-more
invariant-more l = AreIds l.count l.ids.items × (length l.initial.ids.items ≤ length l.ids.items)

abbrev pub decreases-more : goal.decreases-more
decreases-more l = l.wanted - length l.ids.items
