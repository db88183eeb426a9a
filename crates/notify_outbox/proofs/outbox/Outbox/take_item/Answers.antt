use Rattle.std.proofs.Common.{◌≡◌, ◌++◌, List, length, Some, None, sym, ap, ◌∙◌, subst, arith}
use Rattle.std.specs.List.{find}
use Rattle.notify_outbox.specs.Items.{is_any, is_item}
use Rattle.notify_outbox.specs.Outbox.{OutboxData, taken, without_first}
use Rattle.notify_outbox.specs.Queues.{AreLate, in_order, joined, least_from}
use Rattle.notify_outbox.specs.declared.item.Item.{Item}
use Rattle.notify_outbox.specs.declared.queues.Queue.{Queue}
use Rattle.notify_outbox.proofs.KeptLemmas.{kept_popped, popped_fewer}
use Rattle.notify_outbox.proofs.LateLemmas.{fewer_without, late_taken, took_here, took_there}
use Rattle.notify_outbox.proofs.LeastLemmas.{took_none, took_first, place_filled}
use Rattle.notify_outbox.proofs.outbox.Outbox.take_item.Goals as goal

pub returns-in-None-clause-item : goal.returns-in-None-clause-item
returns-in-None-clause-item c =
    let queues = c.self.inside.queues.items in
    let none = subst (λ (qs : List Queue). least_from is_any None 0 qs ≡ None) c.deref.ensures.value (sym c.in-None.ensures) in
    let front = (took_none is_any queues c.self.invariant.0.each none).0 in
    c.take_late.ensures.item
    ∙ sym (took_there is_item (in_order (joined queues)) c.self.inside.late front).0
    ∙ ap (λ (o : OutboxData). find is_item o.items) c.self.view_is

pub returns-in-None-clause-rest : goal.returns-in-None-clause-rest
returns-in-None-clause-rest c =
    let queues = c.self.inside.queues.items in
    let none = subst (λ (qs : List Queue). least_from is_any None 0 qs ≡ None) c.deref.ensures.value (sym c.in-None.ensures) in
    let front = (took_none is_any queues c.self.invariant.0.each none).0 in
    let whole : List Item → OutboxData = λ items. record { items = items; count = c.self.inside.count; room = length c.self.inside.nodes } in
    ap (λ (l : List Item). whole (in_order (joined queues) ++ l)) c.take_late.ensures.rest
    ∙ ap whole (sym (took_there is_item (in_order (joined queues)) c.self.inside.late front).1)
    ∙ ap (taken is_item) c.self.view_is

pub pop-requires-clause-within : goal.pop-requires-clause-within
pop-requires-clause-within c =
    let some = subst (λ (qs : List Queue). least_from is_any None 0 qs ≡ Some c.in-Some.best) c.deref.ensures.value (sym c.in-Some.ensures) in
    (place_filled is_any c.self.inside.queues.items c.in-Some.best some).0

pub pop-requires-clause-some : goal.pop-requires-clause-some
pop-requires-clause-some c =
    let some = subst (λ (qs : List Queue). least_from is_any None 0 qs ≡ Some c.in-Some.best) c.deref.ensures.value (sym c.in-Some.ensures) in
    (place_filled is_any c.self.inside.queues.items c.in-Some.best some).1

pub invariant_of-self : goal.invariant_of-self
invariant_of-self c =
    let all = c.self.invariant.3 in
    let places = c.self.invariant.4 in
    let room = c.pop.ensures.room in
    let many = c.pop.ensures.many in
    let less = popped_fewer c.self.inside.queues.items c.pop.new.queues.items c.in-Some.best.0 c.pop.result c.pop.ensures.popped in (
      kept_popped c.self.inside.queues.items c.pop.new.queues.items c.self.inside.count c.self.inside.oldest c.in-Some.best.0 c.pop.result c.self.invariant.0 c.pop.ensures.popped,
      c.self.invariant.1,
      c.self.invariant.2,
      omega (arith, all, less),
      omega (arith, places, room, many),
      c.self.invariant.5,
      c.self.invariant.6,
    )

pub invariant_of-self-in-None : goal.invariant_of-self-in-None
invariant_of-self-in-None c =
    let all = c.self.invariant.3 in
    let less = fewer_without is_item c.self.inside.late in
    let rest : length c.take_late.new.late ≡ length (without_first is_item c.self.inside.late) = ap length c.take_late.ensures.rest in (
      c.self.invariant.0,
      c.self.invariant.1,
      c.self.invariant.2,
      omega (arith, all, less, rest),
      c.self.invariant.4,
      c.self.invariant.5,
      subst (λ (l : List Item). AreLate l c.self.inside.count c.self.inside.oldest) (sym c.take_late.ensures.rest) (late_taken is_item c.self.inside.late c.self.inside.count c.self.inside.oldest c.self.invariant.6),
    )

pub returns-in-Some-clause-item : goal.returns-in-Some-clause-item
returns-in-Some-clause-item c =
    let queues = c.self.inside.queues.items in
    let new = c.pop.new.queues.items in
    let some = subst (λ (qs : List Queue). least_from is_any None 0 qs ≡ Some c.in-Some.best) c.deref.ensures.value (sym c.in-Some.ensures) in
    let first = took_first is_any queues new c.in-Some.best c.pop.result c.self.invariant.0.each c.self.invariant.0.apart some c.pop.ensures.popped in
    sym (took_here is_item (in_order (joined queues)) c.self.inside.late (in_order (joined new)) c.pop.result first).0
    ∙ ap (λ (o : OutboxData). find is_item o.items) c.self.view_is

pub returns-in-Some-clause-rest : goal.returns-in-Some-clause-rest
returns-in-Some-clause-rest c =
    let queues = c.self.inside.queues.items in
    let new = c.pop.new.queues.items in
    let some = subst (λ (qs : List Queue). least_from is_any None 0 qs ≡ Some c.in-Some.best) c.deref.ensures.value (sym c.in-Some.ensures) in
    let first = took_first is_any queues new c.in-Some.best c.pop.result c.self.invariant.0.each c.self.invariant.0.apart some c.pop.ensures.popped in
    let whole : List Item → OutboxData = λ items. record { items = items; count = c.self.inside.count; room = length c.self.inside.nodes } in
    ap whole (sym (took_here is_item (in_order (joined queues)) c.self.inside.late (in_order (joined new)) c.pop.result first).1)
    ∙ ap (taken is_item) c.self.view_is
