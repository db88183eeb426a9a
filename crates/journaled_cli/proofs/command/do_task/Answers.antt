use Rattle.std.proofs.Common.{refl, sym, inl, inr, ⊎_elim, ◌∙◌}
use Rattle.cse_server.specs.Outside.{link_told, outside, sink_told}
use Rattle.cse_server.specs.declared.bench.Bench.{Bench}
use Rattle.journaled_cli.proofs.RunLemmas.{shut_outside}
use Rattle.journaled_cli.proofs.command.do_task.Goals as goal

-- the task keeps no entity
pub returns-then-not-may_keep : goal.returns-then-not-may_keep
returns-then-not-may_keep g c = rw (sym c.may_keep.ensures ∙ c.if-not-may_keep.true) (refl, refl)

-- the streams were served as one connection
pub returns-in-Http : goal.returns-in-Http
returns-in-Http g c = rw (sym c.may_keep.ensures ∙ c.if-not-may_keep.false, c.in-Http.is) c.serve_streams.ensures

-- the connections of the door were served
pub returns-in-Serve : goal.returns-in-Serve
returns-in-Serve g c =
    rw (sym c.may_keep.ensures ∙ c.if-not-may_keep.false, c.in-Serve.is) (record {
      left = refl;
      out = refl;
      serves = ⊎_elim (λ served. inl served)
          (λ shut. inr (shut_outside (λ (b : Bench g.row.C.Denot g.row.L.Denot). outside (g.S.Source.left c.args.streams.now.input)
          (sink_told (g.O.Sink.written c.args.streams.now.out) (g.O.Sink.puts c.args.streams.now.out)) (g.C.Clock.readings b.clock)
          (link_told (g.L.Link.exchanges b.link) (g.L.Link.faults b.link))) c.args.streams.now.first c.serve_door.new.first c.serve_door.result shut)) c.serve_door.ensures;
    })

-- nothing else is done so
pub returns-in-Replay : goal.returns-in-Replay
returns-in-Replay g c = rw (sym c.may_keep.ensures ∙ c.if-not-may_keep.false, c.in-Replay.is) (refl, refl)

pub returns-in-Twin : goal.returns-in-Twin
returns-in-Twin g c = rw (sym c.may_keep.ensures ∙ c.if-not-may_keep.false, c.in-Twin.is) (refl, refl)

pub returns-in-Generate : goal.returns-in-Generate
returns-in-Generate g c = rw (sym c.may_keep.ensures ∙ c.if-not-may_keep.false, c.in-Generate.is) (refl, refl)
