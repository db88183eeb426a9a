use Rattle.std.proofs.Common.{rules, ◌≡◌, ℕ, ◌<◌, ◌≤◌, List, [], ◌∷◌, ◌++◌, length, refl, sym, ap, ◌∙◌, subst, arith}
use Rattle.notify_outbox.specs.Outbox.{OutboxData}
use Rattle.notify_outbox.specs.Queues.{AreIds, AreKept, Puts, in_order, joined}
use Rattle.notify_outbox.specs.declared.item.Item.{Item}
use Rattle.notify_outbox.specs.declared.queues.Queue.{Queue}
use Rattle.notify_outbox.proofs.KeptLemmas.{kept_put, put_last, puts_as}
use Rattle.notify_outbox.proofs.LateLemmas.{before_all, late_empty, late_none}
use Rattle.notify_outbox.proofs.OrderLemmas.{Each}
use Rattle.std.proofs.lemmas.List.{append-nil}
use Rattle.m2m_value.specs.Shapes.{largest_count}
use Rattle.notify_outbox.proofs.outbox.Outbox.put_back.Goals as goal

pub invariant_of-self-2 : goal.invariant_of-self-2
invariant_of-self-2 c =
    let x = c.args.item in
    let queues = c.self.inside.queues.items in
    let new = c.put.new.queues.items in
    let node : c.push_back.new.self ≡ x ∷ [] = search rules in
    let same : c.reserve.new.self.items ≡ queues = c.reserve.ensures.items in
    let puts = puts_as queues new c.note_channel-channel.result c.push_back.new.self x c.note_channel-channel.ensures node
    (subst (λ (qs : List Queue). Puts c.note_channel-channel.result c.push_back.new.self qs new) same c.put.ensures.put) in
    let each = subst (λ (o : OutboxData). Each (λ (i : Item). i.since ≤ x.since) o.items) (sym c.self.view_is) c.requires.order in
    let before = (before_all x.since (in_order (joined queues)) c.self.inside.late _ refl each).0 in
    let count : c.self.inside.count ≡ c.args.self.now.count = ap (λ (o : OutboxData). o.count) c.self.view_is in
    let above : c.self.inside.count < x.number = omega (arith, count, c.requires.number) in
    let none : length c.new-2.result ≡ 0 = ap length c.new-2.ensures in
    let many = c.put.ensures.many in
    let room = c.put.ensures.room in
    let few : length c.reserve.new.self.items ≡ length queues = ap length same in
    let top = c.requires.top in
    let more : c.self.inside.count < largest_count = omega (arith, above, top) in
    let empty = late_empty c.self.inside.late c.self.inside.count c.self.inside.oldest c.self.invariant.6 more in
    let kept = kept_put queues new c.self.inside.count c.self.inside.oldest x above c.self.invariant.0 puts before in
    let all = kept.few in
    let short : length c.self.inside.late ≡ 0 = ap length empty in (
      subst (AreKept new x.number) (sym c.least_of-oldest.ensures) kept,
      subst (AreIds x.number) (sym c.new.ensures.items) tt,
      omega (arith, none),
      omega (arith, none, top, all, short),
      omega (arith, none, many, room, few),
      top,
      late_none c.self.inside.late x.number c.least_of-oldest.result empty,
    )

pub returns-clause-ok : goal.returns-clause-ok
returns-clause-ok c =
    let x = c.args.item in
    let queues = c.self.inside.queues.items in
    let new = c.put.new.queues.items in
    let node : c.push_back.new.self ≡ x ∷ [] = search rules in
    let same : c.reserve.new.self.items ≡ queues = c.reserve.ensures.items in
    let puts = puts_as queues new c.note_channel-channel.result c.push_back.new.self x c.note_channel-channel.ensures node
    (subst (λ (qs : List Queue). Puts c.note_channel-channel.result c.push_back.new.self qs new) same c.put.ensures.put) in
    let count : c.self.inside.count ≡ c.args.self.now.count = ap (λ (o : OutboxData). o.count) c.self.view_is in
    let above : c.self.inside.count < x.number = omega (arith, count, c.requires.number) in
    let whole : List Item → ℕ → OutboxData = λ items room. record { items = items; count = x.number; room = room } in
    let top = c.requires.top in
    let empty = late_empty c.self.inside.late c.self.inside.count c.self.inside.oldest c.self.invariant.6 (omega (arith, above, top)) in
    let last : in_order (joined new) ++ c.self.inside.late ≡ (in_order (joined queues) ++ c.self.inside.late) ++ x ∷ [] =
    ap (λ (l : List Item). in_order (joined new) ++ l) empty ∙ append-nil (in_order (joined new))
    ∙ put_last queues new c.self.inside.count c.self.inside.oldest x above c.self.invariant.0 puts
    ∙ ap (λ (l : List Item). l ++ x ∷ []) (sym (ap (λ (l : List Item). in_order (joined queues) ++ l) empty ∙ append-nil (in_order (joined queues)))) in
    ap (λ (l : List Item). whole l (length c.new-2.result)) (last ∙ ap (λ (o : OutboxData). o.items ++ x ∷ []) c.self.view_is)
    ∙ ap (λ n. whole (c.args.self.now.items ++ x ∷ []) n) (ap length c.new-2.ensures)
