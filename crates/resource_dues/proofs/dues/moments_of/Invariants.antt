use Rattle.std.proofs.Common.{drop}
use Rattle.resource_dues.specs.Dues.{AreToldBut}
use Rattle.resource_dues.proofs.dues.moments_of.Given as goal

-- the entries so far tell of all but those whose numbers are still to come
abbrev pub invariant-loop-number : goal.invariant-loop-number
invariant-loop-number l = AreToldBut (drop l.number-index l.number-items) l.list l.entries.items
