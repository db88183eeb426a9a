use Rattle.std.proofs.Common.{◌≡◌, ◌++◌, List, length, ap, ◌∙◌, arith, length-append}
use Rattle.notify_outbox.specs.Outbox.{OutboxData}
use Rattle.notify_outbox.specs.Queues.{in_order, joined}
use Rattle.notify_outbox.specs.declared.queues.Queue.{Queue}
use Rattle.notify_outbox.proofs.OrderLemmas.{length_in_order}
use Rattle.notify_outbox.proofs.outbox.Outbox.len.Goals as goal

pub returns : goal.returns
returns c =
    let queues : c.count_all.result ≡ length (joined c.self.inside.queues.items) = c.count_all.ensures ∙ ap (λ (qs : List Queue). length (joined qs)) c.deref.ensures.value in
    let ordered = length_in_order (joined c.self.inside.queues.items) in
    let all = length-append (in_order (joined c.self.inside.queues.items)) c.self.inside.late in
    let view : length (in_order (joined c.self.inside.queues.items) ++ c.self.inside.late) ≡ length c.args.self.now.items = ap (λ (o : OutboxData). length o.items) c.self.view_is in
    let late = c.len.ensures.value in
    omega (arith, queues, ordered, all, view, late)
