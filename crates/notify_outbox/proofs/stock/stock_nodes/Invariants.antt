use Rattle.std.proofs.Common.{◌≡◌, ◌≤◌, ◌-◌, length}
use Rattle.notify_outbox.proofs.stock.stock_nodes.Given as goal

abbrev pub invariant-more : goal.invariant-more
invariant-more l = (length l.initial.nodes ≤ length l.nodes) × (l.wanted ≤ length l.initial.nodes → l.nodes ≡ l.initial.nodes) × (length l.initial.nodes ≤ l.wanted → length l.nodes ≤ l.wanted)

abbrev pub decreases-more : goal.decreases-more
decreases-more l = l.wanted - length l.nodes
