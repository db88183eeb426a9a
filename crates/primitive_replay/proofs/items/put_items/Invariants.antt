use Rattle.std.proofs.Common.{◌≡◌, length}
use Rattle.cse_server.specs.Outside.{sink_told}
use Rattle.primitive_replay.specs.Way.{PutsFront}
use Rattle.primitive_replay.proofs.items.put_items.Given as goal

abbrev pub invariant-items : goal.invariant-items
invariant-items g l = record {
  front : PutsFront l.initial.outbox.items l.outbox.items (sink_told (g.O.Sink.written l.initial.out) (g.O.Sink.puts l.initial.out))
      (sink_told (g.O.Sink.written l.out) (g.O.Sink.puts l.out));
  write_steady : g.O.Sink.faults l.out ≡ g.O.Sink.faults l.initial.out;
}

abbrev pub decreases-items : goal.decreases-items
decreases-items g l = length l.outbox.items
