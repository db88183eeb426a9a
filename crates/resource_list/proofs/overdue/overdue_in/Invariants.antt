use Rattle.std.proofs.Common.{◌≡◌, ◌++◌, not, drop}
use Rattle.std.specs.List.{filter}
use Rattle.tree_model.specs.Tree.{has, live, numbers_of, overdue_numbers}
use Rattle.resource_list.proofs.overdue.overdue_in.Given as goal

-- the numbers so far and those of the rest are those of all
abbrev pub invariant-loop-k : goal.invariant-loop-k
invariant-loop-k l = l.numbers.items ++ numbers_of (filter (λ r. not (has r.number (live l.moment l.resources))) (drop l.k l.resources)) ≡ overdue_numbers l.moment l.resources
