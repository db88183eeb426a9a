use Rattle.std.proofs.Common.{◌≡◌}
use Rattle.ws_binding.proofs.socket.WsTalker.receive_any.Given as goal

abbrev pub invariant-loop : goal.invariant-loop
invariant-loop g l = l.self.faults ≡ l.initial.self.faults
