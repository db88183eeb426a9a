use Rattle.std.proofs.Common.{◌≤◌, ◌-◌}
use Rattle.cse_server.specs.Outside.{link_told}
use Rattle.cse_server.specs.Sending.{most_items}
use Rattle.journaled_server.specs.Sending.{sender}
use Rattle.journaled_server.proofs.SendingLemmas.{HasSent}
use Rattle.journaled_server.proofs.sending.send_kept.Given as goal

abbrev pub invariant-items : goal.invariant-items
invariant-items g l = record {
  seats : g.D.Desk.seats l.desk l.seat;
  few : l.sent ≤ most_items;
  so_far : HasSent g.D.Desk.grown
      (sender l.fn.seat (g.C.Clock.readings l.fn.clock) (link_told (g.L.Link.exchanges l.fn.link) (g.L.Link.faults l.fn.link)))
      (sender l.seat (g.C.Clock.readings l.clock) (link_told (g.L.Link.exchanges l.link) (g.L.Link.faults l.link))) l.sent;
}

abbrev pub decreases-items : goal.decreases-items
decreases-items g l = most_items - l.sent
