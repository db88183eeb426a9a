use Rattle.std.proofs.Common.{◌≡◌, length}
use Rattle.devices.proofs.Writing.{IsUnderWay}
use Rattle.devices.proofs.streams.StdOutSink.put.Given as goal

abbrev pub invariant-loop-rest : goal.invariant-loop-rest
invariant-loop-rest g l =
    IsUnderWay (g.W.Write.contents l.initial.self.writer) (g.W.Write.contents l.self.writer) l.initial.bytes l.rest
    × (l.self.faults ≡ l.initial.self.faults)

abbrev pub decreases-loop-rest : goal.decreases-loop-rest
decreases-loop-rest g l = length l.rest
