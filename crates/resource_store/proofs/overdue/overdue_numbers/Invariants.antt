use Rattle.std.proofs.Common.{◌≡◌, ◌++◌, drop, not}
use Rattle.tree_model.specs.Tree.{has, live, overdue_numbers}
use Rattle.resource_store.proofs.NextLemmas.{picked_at}
use Rattle.resource_store.proofs.overdue.overdue_numbers.Given as goal

-- the numbers so far and those of the rest are those of all
abbrev pub invariant-loop-number : goal.invariant-loop-number
invariant-loop-number l = l.overdue.items ++ picked_at (λ r. not (has r.number (live l.moment l.store))) l.store (drop l.number-index l.number-items) ≡ overdue_numbers l.moment l.store
