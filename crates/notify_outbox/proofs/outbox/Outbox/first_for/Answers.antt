use Rattle.std.proofs.Common.{◌≡◌, List, Some, None, option_map, sym, ap, ◌∙◌, subst}
use Rattle.notify_outbox.specs.Items.{is_numbered, waits_for}
use Rattle.notify_outbox.specs.Outbox.{first_note}
use Rattle.std.specs.List.{find}
use Rattle.notify_outbox.specs.Queues.{in_order, joined, least_from}
use Rattle.notify_outbox.specs.declared.item.Item.{Item}
use Rattle.notify_outbox.specs.declared.queues.Queue.{Queue}
use Rattle.notify_outbox.proofs.LateLemmas.{found_here, noted_as, took_there}
use Rattle.notify_outbox.proofs.LeastLemmas.{took_none, front_found, place_filled}
use Rattle.notify_outbox.proofs.outbox.Outbox.first_for.Goals as goal

pub returns-in-None : goal.returns-in-None
returns-in-None c =
    let queues = c.self.inside.queues.items in
    let none = subst (λ (qs : List Queue). least_from (is_numbered c.args.channel) None 0 qs ≡ None) c.deref.ensures.value (sym c.in-None.ensures) in
    let front = (took_none (is_numbered c.args.channel) queues c.self.invariant.0.each none).0 in
    c.noted.ensures
    ∙ noted_as c.late_for.result (find (waits_for c.args.channel) c.self.inside.late) c.late_for.ensures
    ∙ ap (option_map (λ (i : Item). i.note)) (sym (took_there (waits_for c.args.channel) (in_order (joined queues)) c.self.inside.late front).0)
    ∙ ap (first_note (waits_for c.args.channel)) c.self.view_is

pub front_at-requires-clause-within : goal.front_at-requires-clause-within
front_at-requires-clause-within c =
    let some = subst (λ (qs : List Queue). least_from (is_numbered c.args.channel) None 0 qs ≡ Some c.in-Some.best) c.deref.ensures.value (sym c.in-Some.ensures) in
    (place_filled (is_numbered c.args.channel) c.self.inside.queues.items c.in-Some.best some).0

pub front_at-requires-clause-some : goal.front_at-requires-clause-some
front_at-requires-clause-some c =
    let some = subst (λ (qs : List Queue). least_from (is_numbered c.args.channel) None 0 qs ≡ Some c.in-Some.best) c.deref.ensures.value (sym c.in-Some.ensures) in
    (place_filled (is_numbered c.args.channel) c.self.inside.queues.items c.in-Some.best some).1

pub returns-in-Some : goal.returns-in-Some
returns-in-Some c =
    let queues = c.self.inside.queues.items in
    let some = subst (λ (qs : List Queue). least_from (is_numbered c.args.channel) None 0 qs ≡ Some c.in-Some.best) c.deref.ensures.value (sym c.in-Some.ensures) in
    let front = front_found (is_numbered c.args.channel) queues c.in-Some.best c.front_at.result.now c.self.invariant.0.each c.self.invariant.0.apart some c.front_at.ensures in
    sym (ap (option_map (λ (i : Item). i.note)) (found_here (waits_for c.args.channel) (in_order (joined queues)) c.self.inside.late c.front_at.result.now front))
    ∙ ap (first_note (waits_for c.args.channel)) c.self.view_is
