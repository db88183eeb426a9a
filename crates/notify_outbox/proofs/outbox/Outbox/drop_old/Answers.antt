use Rattle.std.proofs.Common.{◌≡◌, ◌++◌, ◌+◌, ◌-◌, ◌<◌, ◌≤◌, List, length, sym, ap, ◌∙◌, arith}
use Rattle.notify_outbox.specs.Items.{keeping_time}
use Rattle.notify_outbox.specs.Outbox.{OutboxData, dropped}
use Rattle.notify_outbox.specs.Queues.{fresh, in_order, joined}
use Rattle.notify_outbox.specs.declared.item.Item.{Item}
use Rattle.notify_outbox.proofs.DropLemmas.{early_dropped, fresh_fewer, none_dropped, kept_fresh}
use Rattle.notify_outbox.proofs.LateLemmas.{all_dropped, fewer_fresh, late_fresh}
use Rattle.notify_outbox.proofs.OrderLemmas.{each_append, each_in_order}
use Rattle.notify_outbox.proofs.outbox.Outbox.drop_old.Goals as goal

pub returns-then-moment-lt-KEEPING_TIME : goal.returns-then-moment-lt-KEEPING_TIME
returns-then-moment-lt-KEEPING_TIME c = early_dropped c.args.self.now c.args.moment c.if-moment-lt-KEEPING_TIME.true

pub returns-then-limit-self : goal.returns-then-limit-self
returns-then-limit-self c =
    let whole : List Item → OutboxData = λ items. record { items = items; count = c.self.inside.count; room = length c.self.inside.nodes } in
    let late = c.if-moment-lt-KEEPING_TIME.false in
    let low = c.if-limit-self.true in
    let early : c.args.moment < c.self.inside.oldest + keeping_time = omega arith in
    sym c.self.view_is
    ∙ ap whole (none_dropped c.args.moment c.self.inside.oldest (in_order (joined c.self.inside.queues.items) ++ c.self.inside.late) early
    (each_append (λ (i : Item). c.self.inside.oldest ≤ i.since) (in_order (joined c.self.inside.queues.items)) c.self.inside.late
    (each_in_order (λ (i : Item). c.self.inside.oldest ≤ i.since) (joined c.self.inside.queues.items) c.self.invariant.0.young) c.self.invariant.6.young))
    ∙ ap (dropped c.args.moment) c.self.view_is

pub invariant_of-self : goal.invariant_of-self
invariant_of-self c =
    let limit = c.args.moment - keeping_time in
    let most = c.self.invariant.3 in
    let places = c.self.invariant.4 in
    let room = c.drop_until.ensures.room in
    let many = c.drop_until.ensures.many in
    let less = fresh_fewer limit c.self.inside.queues.items c.drop_until.new.queues.items c.self.invariant.0.each c.drop_until.ensures.same in
    let left = fewer_fresh limit c.self.inside.late in
    let late : length c.drop_front.new.items ≡ length (fresh limit c.self.inside.late) = ap length c.drop_front.ensures in (
      kept_fresh limit c.self.inside.queues.items c.drop_until.new.queues.items c.self.inside.count c.self.inside.oldest c.self.invariant.0 c.drop_until.ensures.same c.drop_until.ensures.each,
      c.self.invariant.1,
      c.self.invariant.2,
      omega (arith, most, less, left, late),
      omega (arith, places, room, many),
      c.self.invariant.5,
      late_fresh limit c.self.inside.late c.drop_front.new.items c.self.inside.count c.self.inside.oldest c.drop_front.ensures c.self.invariant.6,
    )

pub returns : goal.returns
returns c =
    let whole : List Item → OutboxData = λ items. record { items = items; count = c.self.inside.count; room = length c.self.inside.nodes } in
    ap whole (all_dropped c.args.moment c.self.inside.queues.items c.drop_until.new.queues.items c.self.inside.late c.drop_front.new.items c.if-moment-lt-KEEPING_TIME.false c.self.invariant.0.each c.drop_until.ensures.same c.self.invariant.6.order c.drop_front.ensures)
    ∙ ap (dropped c.args.moment) c.self.view_is
