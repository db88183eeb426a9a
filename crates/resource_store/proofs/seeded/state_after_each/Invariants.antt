use Rattle.std.proofs.Common.{◌≡◌, fold, take}
use Rattle.resource_store.specs.Seeded.{mixed}
use Rattle.resource_store.proofs.seeded.state_after_each.Given as goal

-- the bytes so far are in the state
abbrev pub invariant-loop-byte : goal.invariant-loop-byte
invariant-loop-byte l = l.after ≡ fold mixed l.state (take l.byte-index l.bytes)
