use Rattle.std.proofs.Common.{sym, ap, ◌∙◌, not}
use Rattle.notify_outbox.proofs.QueueLemmas.{empty_at}
use Rattle.notify_outbox.proofs.queues.is_filled_at.Goals as goal

pub returns : goal.returns
returns c = λ f d. empty_at c.args.queues.now.items c.args.place c.index.result.now d c.requires c.index.ensures (ap not (sym c.is_empty.ensures) ∙ f)
