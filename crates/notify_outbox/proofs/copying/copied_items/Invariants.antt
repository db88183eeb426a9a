use Rattle.std.proofs.Common.{◌≡◌, ◌++◌}
use Rattle.notify_outbox.proofs.copying.copied_items.Given as goal

-- the copies, and what is left, are all
abbrev pub invariant-loop-item : goal.invariant-loop-item
invariant-loop-item l = l.copies ++ l.item-iterator ≡ l.items
