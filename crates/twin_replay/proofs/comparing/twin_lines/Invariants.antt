use Rattle.std.proofs.Common.{◌≡◌, ◌+◌, ◌≤◌}
use Rattle.std.specs.Io.KnownBytes.{prepend_known}
use Rattle.cse_server.specs.Outside.{sink_told}
use Rattle.primitive_replay.specs.Lines.{most_lines}
use Rattle.twin_replay.specs.Twins.{TwinsUpTo, told}
use Rattle.twin_replay.proofs.comparing.twin_lines.Given as goal

abbrev pub invariant-loop-place : goal.invariant-loop-place
invariant-loop-place g l = record {
  place : l.place ≤ most_lines + 1;
  goes : TwinsUpTo 1 l.place l.fn.sides l.sides
      (told (g.S.Source.left l.fn.input) (sink_told (g.O.Sink.written l.fn.out) (g.O.Sink.puts l.fn.out)))
      (told (prepend_known l.held (g.S.Source.left l.input)) (sink_told (g.O.Sink.written l.out) (g.O.Sink.puts l.out)));
  read_steady : g.S.Source.faults l.input ≡ g.S.Source.faults l.fn.input;
  write_steady : g.O.Sink.faults l.out ≡ g.O.Sink.faults l.fn.out;
}
