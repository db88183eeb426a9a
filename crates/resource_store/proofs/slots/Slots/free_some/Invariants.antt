use Rattle.std.proofs.Common.{◌≡◌, ℕ}
use Rattle.resource_store.specs.Slots.{held}
use Rattle.resource_store.proofs.slots.Slots.free_some.Given as goal

-- what is seen is what was seen
abbrev pub invariant-loop : goal.invariant-loop
invariant-loop l = (n : ℕ) → held l.self.table n ≡ held l.fn.self.table n
