use Rattle.std.proofs.Common.{◌≤◌, ◌+◌, ◌-◌, length, ap, arith}
use Rattle.std.proofs.lemmas.Bool.{leb-true}
use Rattle.m2m_value.specs.Shapes.{largest_count}
use Rattle.notify_outbox.specs.Outbox.{OutboxData}
use Rattle.notify_outbox.specs.Queues.{joined}
use Rattle.notify_outbox.proofs.LateLemmas.{holds_more, length_all}
use Rattle.notify_outbox.proofs.outbox.Outbox.can_hold.Goals as goal

pub overflow_sub-result : goal.overflow_sub-result
overflow_sub-result c =
    let view = ap (λ (o : OutboxData). length o.items) c.self.view_is in
    let all = length_all (joined c.self.inside.queues.items) c.self.inside.late in
    let most = c.self.invariant.3 in
    let len = c.len.ensures in
    omega (arith, view, all, most, len)

pub returns-then-n-self : goal.returns-then-n-self
returns-then-n-self c fits =
    let le : c.args.n ≤ largest_count - c.self.inside.count = leb-true _ _ fits in
    let view = ap (λ (o : OutboxData). length o.items) c.self.view_is in
    let all = length_all (joined c.self.inside.queues.items) c.self.inside.late in
    let most = c.self.invariant.3 in
    let short : length (joined c.self.inside.queues.items) + length c.self.inside.late ≤ largest_count = omega (arith, most) in
    let more = holds_more c.self.inside.late (length (joined c.self.inside.queues.items)) c.self.inside.count c.self.inside.oldest c.args.n c.self.invariant.6 c.self.invariant.0.few c.self.invariant.5 short le in
    omega (arith, view, all, more)
