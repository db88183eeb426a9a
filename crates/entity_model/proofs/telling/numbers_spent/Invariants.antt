use Rattle.std.proofs.Common.{◌≡◌, ◌++◌, drop}
use Rattle.entity_model.specs.Lowering.{spent_numbers}
use Rattle.entity_model.proofs.telling.numbers_spent.Given as goal

-- the numbers so far, and those of the rows that are left, are all
abbrev pub invariant-loop-row : goal.invariant-loop-row
invariant-loop-row l = l.numbers.items ++ spent_numbers (drop l.row-index l.rows) ≡ spent_numbers l.rows
