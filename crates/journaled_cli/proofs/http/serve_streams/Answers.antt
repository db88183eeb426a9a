use Rattle.std.proofs.Common.{ap, rules}
use Rattle.cse_server.specs.Outside.{link_told, outside, sink_told}
use Rattle.turn_desk.specs.Growth.{IsOwnRun}
use Rattle.journaled_server.specs.Serving.{AnswersGrown}
use Rattle.cse_cli.proofs.HttpLemmas.{first_name, second_name, after_both, serves_same}
use Rattle.remote_members.specs.Wide.{wide}
use Rattle.journaled_cli.specs.Run.{KeptTurns, ServesStreams}
use Rattle.journaled_cli.proofs.http.serve_streams.Goals as goal

pub returns : goal.returns
returns g c =
    let K = g.F.KeptFile in
    let turns = KeptTurns g.K.Recorder.step g.K.Recorder.keeps K.tells K.seen K.may_leave K.moment K.left_since in
    let served = c.serve_kept_alone-ended in
    let wire = c.new-wire in
    let read_name = first_name _ _ _ _ served.ensures.holds in
    let put_name = second_name _ _ _ _ served.ensures.holds in
    let bench = c.finish-status.new.bench in
    after_both (λ i o. ServesStreams turns c.args.home.now c.args.object
    (outside (g.S.Source.left c.args.input.now) (sink_told (g.O.Sink.written c.args.out.now) (g.O.Sink.puts c.args.out.now)) (g.C.Clock.readings c.args.bench.now.clock) (link_told (g.L.Link.exchanges c.args.bench.now.link) (g.L.Link.faults c.args.bench.now.link)))
    (outside (g.S.Source.left i) (sink_told (g.O.Sink.written o) (g.O.Sink.puts o)) (g.C.Clock.readings bench.clock) (link_told (g.L.Link.exchanges bench.link) (g.L.Link.faults bench.link))) c.status_of.result)
    wire.result.input.ghost_name served.new.conn.input.ghost_name wire.result.out.ghost_name served.new.conn.out.ghost_name
    _ served.new.conn.input.now _ served.new.conn.out.now read_name (search rules) put_name (search rules)
    (record {
      between = served.new.seat;
      after = c.finish-status.new.seat;
      served = outside (g.S.Source.left served.new.conn.input.now) (sink_told (g.O.Sink.written served.new.conn.out.now) (g.O.Sink.puts served.new.conn.out.now))
          (g.C.Clock.readings served.new.clock) (link_told (g.L.Link.exchanges served.new.link) (g.L.Link.faults served.new.link));
      ended = served.result;
      sent = c.finish-status.result;
      serves = serves_same (wide c.args.home.now) (AnswersGrown (IsOwnRun turns)) c.new-seat.result _ served.new.seat _ _ _ _ _ _ _ served.result
          c.new-seat.ensures (ap g.S.Source.left wire.ensures.reads) (ap (λ o. sink_told (g.O.Sink.written o) (g.O.Sink.puts o)) wire.ensures.writes)
          served.ensures.serves;
      behind = c.finish-status.ensures _ _;
      status_is = search rules;
    })
