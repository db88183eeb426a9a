use Rattle.std.proofs.Common.{◌≡◌, ◌⊎◌, ◌-◌, length}
use Rattle.http_frames.specs.Inbox.{Reads}
use Rattle.http_frames.specs.Waiting.{EndsBelow}
use Rattle.http_frames.proofs.held.ReadBuffer.fill.Given as goal

abbrev pub invariant-loop-self : goal.invariant-loop-self
invariant-loop-self g l = record {
  reads : Reads (g.S.Source.left l.initial.src) (g.S.Source.left l.src) l.initial.self l.self;
  ends : (l.self ≡ l.initial.self) ⊎ EndsBelow l.need l.initial.self l.self;
  faults : g.S.Source.faults l.src ≡ g.S.Source.faults l.initial.src;
  beside : g.S.Source.kept_by_read l.src ≡ g.S.Source.kept_by_read l.initial.src;
}

abbrev pub decreases-loop-self : goal.decreases-loop-self
decreases-loop-self g l = l.need - length l.self
