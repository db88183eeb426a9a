use Rattle.std.proofs.Common.{ap, subst, rules}
use Rattle.m2m_io.specs.declared.status.Status.TheVariants.{ReadFault, WriteFault}
use Rattle.cse_server.specs.Outside.{EndsByFault, link_told, outside, sink_told}
use Rattle.turn_desk.specs.Growth.{IsOwnRun}
use Rattle.remote_members.specs.Wide.{wide}
use Rattle.cse_cli.specs.Run.{ServesOpened}
use Rattle.cse_cli.proofs.HttpLemmas.{first_name, second_name, after_lent, after_both, reads_of, writes_of, serves_same}
use Rattle.cse_cli.proofs.http.serve_object.Goals as goal

pub returns-clause-serves : goal.returns-clause-serves
returns-clause-serves g c =
    let served = c.serve_alone-ended in
    let wire = c.new-wire in
    let read_name = first_name _ _ _ _ served.ensures.holds in
    let put_name = second_name _ _ _ _ served.ensures.holds in
    after_both (λ i o. ServesOpened g.X.Object.step c.args.object c.args.home.now
    (outside (g.S.Source.left c.args.input.now) (sink_told (g.O.Sink.written c.args.out.now) (g.O.Sink.puts c.args.out.now)) (g.C.Clock.readings c.args.bench.now.clock) (link_told (g.L.Link.exchanges c.args.bench.now.link) (g.L.Link.faults c.args.bench.now.link)))
    (outside (g.S.Source.left i) (sink_told (g.O.Sink.written o) (g.O.Sink.puts o)) (g.C.Clock.readings c.finish.new.bench.clock) (link_told (g.L.Link.exchanges c.finish.new.bench.link) (g.L.Link.faults c.finish.new.bench.link))) c.finish.result)
    wire.result.input.ghost_name served.new.conn.input.ghost_name wire.result.out.ghost_name served.new.conn.out.ghost_name
    _ served.new.conn.input.now _ served.new.conn.out.now read_name (search rules) put_name (search rules)
    (record {
      between = served.new.seat;
      after = c.finish.new.seat;
      served = outside (g.S.Source.left served.new.conn.input.now) (sink_told (g.O.Sink.written served.new.conn.out.now) (g.O.Sink.puts served.new.conn.out.now))
          (g.C.Clock.readings served.new.clock) (link_told (g.L.Link.exchanges served.new.link) (g.L.Link.faults served.new.link));
      ended = served.result;
      serves = serves_same (wide c.args.home.now) (IsOwnRun g.X.Object.step) c.new-seat.result _ served.new.seat _ _ _ _ _ _ _ served.result
          c.new-seat.ensures (ap g.S.Source.left wire.ensures.reads) (ap (λ o. sink_told (g.O.Sink.written o) (g.O.Sink.puts o)) wire.ensures.writes)
          served.ensures.serves;
      behind = c.finish.ensures.behind _ _;
    })

pub returns-clause-reads : goal.returns-clause-reads
returns-clause-reads g c =
    let served = c.serve_alone-ended in
    let wire = c.new-wire in
    let now = g.S.Source.faults served.new.conn.input.now in
    after_lent (λ i. EndsByFault ReadFault c.finish.result (g.S.Source.faults c.args.input.now) (g.S.Source.faults i))
    wire.result.input.ghost_name served.new.conn.input.ghost_name _ served.new.conn.input.now
    (first_name _ _ _ _ served.ensures.holds) (search rules)
    (subst (λ i. EndsByFault ReadFault c.finish.result (g.S.Source.faults i) now) wire.ensures.reads
    (reads_of served.result _ now c.finish.ensures.reads served.ensures.reads))

pub returns-clause-writes : goal.returns-clause-writes
returns-clause-writes g c =
    let served = c.serve_alone-ended in
    let wire = c.new-wire in
    let now = g.O.Sink.faults served.new.conn.out.now in
    after_lent (λ o. EndsByFault WriteFault c.finish.result (g.O.Sink.faults c.args.out.now) (g.O.Sink.faults o))
    wire.result.out.ghost_name served.new.conn.out.ghost_name _ served.new.conn.out.now
    (second_name _ _ _ _ served.ensures.holds) (search rules)
    (subst (λ o. EndsByFault WriteFault c.finish.result (g.O.Sink.faults o) now) wire.ensures.writes
    (writes_of served.result _ now c.finish.ensures.writes served.ensures.writes))
