use Rattle.std.proofs.Common.{◌≡◌, ◌+◌, ◌≤◌, [], None}
use Rattle.std.specs.Io.KnownBytes.{prepend_known}
use Rattle.cse_server.specs.Outside.{link_told, outside, sink_told}
use Rattle.primitive_replay.specs.Lines.{most_lines}
use Rattle.primitive_replay.specs.Way.{ReplaysUpTo}
use Rattle.primitive_replay.proofs.replaying.replay_lines.Given as goal

abbrev pub invariant-loop-place : goal.invariant-loop-place
invariant-loop-place g l = record {
  place : l.place ≤ most_lines + 1;
  goes : ReplaysUpTo 1 l.place 0 l.reading l.fn.entity l.entity [] l.waiting.items
      (outside (g.S.Source.left l.fn.input) (sink_told (g.O.Sink.written l.fn.out) (g.O.Sink.puts l.fn.out)) None (link_told (g.L.Link.exchanges l.fn.link) (g.L.Link.faults l.fn.link)))
      (outside (prepend_known l.held (g.S.Source.left l.input)) (sink_told (g.O.Sink.written l.out) (g.O.Sink.puts l.out)) None (link_told (g.L.Link.exchanges l.link) (g.L.Link.faults l.link)));
  read_steady : g.S.Source.faults l.input ≡ g.S.Source.faults l.fn.input;
  write_steady : g.O.Sink.faults l.out ≡ g.O.Sink.faults l.fn.out;
}
