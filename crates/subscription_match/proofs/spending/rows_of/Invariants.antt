use Rattle.std.proofs.Common.{◌≡◌, ◌++◌}
use Rattle.subscription_match.proofs.spending.rows_of.Given as goal

-- those so far and those that are left are all
abbrev pub invariant-loop-row : goal.invariant-loop-row
invariant-loop-row l = l.rows.items ++ l.row-iterator ≡ l.fn.left.entries
