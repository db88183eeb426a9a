use Rattle.std.proofs.Common.{◌≡◌, ◌+◌, ◌-◌, ◌≤◌, length, take}
use Rattle.std.specs.Io.KnownBytes.{Keeps, prepend_known}
use Rattle.primitive_replay.specs.Front.{HasNoEnd, held_limit}
use Rattle.primitive_replay.proofs.front.settle.Given as goal

abbrev pub invariant-reads : goal.invariant-reads
invariant-reads g l = record {
  stream : Keeps (prepend_known l.initial.held (g.S.Source.left l.initial.src)) (prepend_known l.held (g.S.Source.left l.src));
  seen : l.seen ≤ length l.held;
  none : HasNoEnd (take l.seen l.held);
  faults : g.S.Source.faults l.src ≡ g.S.Source.faults l.initial.src;
}

abbrev pub decreases-reads : goal.decreases-reads
decreases-reads g l = held_limit + 1 - length l.held
