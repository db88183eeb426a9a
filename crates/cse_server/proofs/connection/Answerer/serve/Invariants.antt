use Rattle.std.proofs.Common.{◌≡◌, ◌<◌, [], false, length}
use Rattle.cse_server.specs.Outside.{link_told, outside, sink_told}
use Rattle.http_frames.specs.Inbox.{stream_of, most_held}
use Rattle.http_frames.specs.declared.frame.Side.TheVariants.{Request}
use Rattle.cse_server.specs.Way.{Goes}
use Rattle.cse_server.proofs.connection.Answerer.serve.Given as goal

abbrev pub invariant-loop-place : goal.invariant-loop-place
invariant-loop-place g l = record {
  seats : g.D.Desk.seats l.self.desk.now l.seat;
  still_open : l.rooms.inbox.refused ≡ false;
  few : length l.rooms.inbox.held < most_held Request;
  goes : Goes 1 l.place (g.W.Replier.rule l.self.replier.now) g.D.Desk.grown l.fn.seat l.seat [] l.rooms.waiting.items
      (outside (g.X.Source.left l.fn.conn) (sink_told (g.X.Sink.written l.fn.conn) (g.X.Sink.puts l.fn.conn))
      (g.C.Clock.readings l.fn.clock) (link_told (g.L.Link.exchanges l.fn.link) (g.L.Link.faults l.fn.link)))
      (outside (stream_of l.rooms.inbox.held (g.X.Source.left l.conn)) (sink_told (g.X.Sink.written l.conn) (g.X.Sink.puts l.conn))
      (g.C.Clock.readings l.clock) (link_told (g.L.Link.exchanges l.link) (g.L.Link.faults l.link)));
  read_steady : g.X.Source.faults l.conn ≡ g.X.Source.faults l.fn.conn;
  write_steady : g.X.Sink.faults l.conn ≡ g.X.Sink.faults l.fn.conn;
  holds : (g.X.Source.kept_by_read l.conn).holds ≡ (g.X.Source.kept_by_read l.fn.conn).holds;
}
