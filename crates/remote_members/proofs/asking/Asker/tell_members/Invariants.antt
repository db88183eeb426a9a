use Rattle.std.specs.Vec.Iter.{into_iter_items}
use Rattle.http_forwarding.specs.Carries.{link_told}
use Rattle.remote_members.proofs.AskLemmas.{HasTold}
use Rattle.remote_members.proofs.asking.Asker.tell_members.Given as goal

-- so much is told, and the members that the iterator has are left
abbrev pub invariant-loop-entry : goal.invariant-loop-entry
invariant-loop-entry g l = record {
  seats : g.D.Desk.seats l.self.desk.now l.seat;
  so : HasTold g.D.Desk.grown l.fn.seat l.seat (g.C.Clock.readings l.fn.clock) (g.C.Clock.readings l.clock)
      (link_told (g.L.Link.exchanges l.fn.link) (g.L.Link.faults l.fn.link))
      (link_told (g.L.Link.exchanges l.link) (g.L.Link.faults l.link))
      l.self.home.now l.request l.fn.entries.items (into_iter_items l.entry-iterator) l.told.items;
}
