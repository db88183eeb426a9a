use Rattle.std.proofs.Common.{◌≡◌, ◌-◌, length}
use Rattle.http_frames.specs.Frame.{frame_limit}
use Rattle.http_frames.specs.Inbox.{Reads}
use Rattle.http_frames.specs.Spans.{IsWalked}
use Rattle.http_frames.specs.Waiting.{ReadsAsNeeded}
use Rattle.http_frames.proofs.inbox.settle.Given as goal

abbrev pub invariant-reads : goal.invariant-reads
invariant-reads g l = record {
  reads : Reads (g.S.Source.left l.initial.src) (g.S.Source.left l.src) l.initial.held l.held;
  needed : ReadsAsNeeded l.side l.initial.held l.held l.initial.src l.src;
  faults : g.S.Source.faults l.src ≡ g.S.Source.faults l.initial.src;
  beside : g.S.Source.kept_by_read l.src ≡ g.S.Source.kept_by_read l.initial.src;
  walked : IsWalked l.side l.held l.headers l.walked.head l.walked.at l.walked.body.items;
}

abbrev pub decreases-reads : goal.decreases-reads
decreases-reads g l = frame_limit l.side - length l.held
