use Rattle.std.proofs.Common.{◌≡◌, ◌≤◌, List, length, sym, ap, subst, arith}
use Rattle.notify_outbox.specs.Outbox.{OutboxData}
use Rattle.notify_outbox.specs.Queues.{AreKept, joined}
use Rattle.notify_outbox.specs.declared.queues.Queue.{Queue}
use Rattle.notify_outbox.proofs.LateLemmas.{length_all}
use Rattle.notify_outbox.proofs.outbox.Outbox.reserve.Goals as goal

pub invariant_of-self-2 : goal.invariant_of-self-2
invariant_of-self-2 c =
    let same = c.reserve.ensures.items in
    let view = ap (λ (o : OutboxData). length o.items) c.self.view_is in
    let all = length_all (joined c.self.inside.queues.items) c.self.inside.late in
    let holds = c.if-not-can_hold.ensures in
    let few = c.if-n-len.false in
    let nodes = c.len.ensures.value in
    let enough = c.in_ok-stock_ids.ensures.enough in
    let short : length c.self.inside.nodes ≤ c.args.n = omega (arith, few, nodes) in
    let most = c.stock_nodes.ensures.most short in
    let queues : length (joined c.reserve.new.self.items) ≡ length (joined c.self.inside.queues.items) = ap (λ (qs : List Queue). length (joined qs)) same in
    let long : length c.reserve.new.self.items ≡ length c.self.inside.queues.items = ap length same in
    let room = c.in_ok-reserve.ensures.ok in (
      subst (λ (qs : List Queue). AreKept qs c.self.inside.count c.self.inside.oldest) (sym same) c.self.invariant.0,
      c.stock_ids.ensures.ids,
      omega (arith, enough, most),
      omega (arith, most, holds, view, all, queues),
      omega (arith, most, room, long),
      c.self.invariant.5,
      c.self.invariant.6,
    )
