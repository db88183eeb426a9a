use Rattle.resource_dues.specs.Dues.{HasDues}
use Rattle.resource_dues.proofs.dues.Dues.next_due.Given as goal

-- what was told is told still
abbrev pub invariant-loop : goal.invariant-loop
invariant-loop l = HasDues l.list l.fn.self → HasDues l.list l.self
