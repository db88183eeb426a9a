use Rattle.std.proofs.Common.{◌≡◌}
use Rattle.cse_server.specs.Outside.{link_told}
use Rattle.ws_binding.specs.Talker.{talk_told}
use Rattle.ws_binding.specs.Way.{Goes}
use Rattle.ws_binding.proofs.talk.serve_talk.Given as goal

abbrev pub invariant-loop : goal.invariant-loop
invariant-loop g l = record {
  seats : g.D.Desk.seats l.fn.desk l.seat;
  goes : Goes l.counter (g.W.Replier.rule l.fn.replier) g.D.Desk.grown l.fn.seat l.seat
      (g.C.Clock.readings l.fn.clock) (g.C.Clock.readings l.clock)
      (link_told (g.L.Link.exchanges l.fn.link) (g.L.Link.faults l.fn.link)) (link_told (g.L.Link.exchanges l.link) (g.L.Link.faults l.link))
      (talk_told (g.K.Talker.to_come l.fn.talker) (g.K.Talker.said l.fn.talker)) (talk_told (g.K.Talker.to_come l.talker) (g.K.Talker.said l.talker));
  steady : g.K.Talker.faults l.talker ≡ g.K.Talker.faults l.fn.talker;
}
