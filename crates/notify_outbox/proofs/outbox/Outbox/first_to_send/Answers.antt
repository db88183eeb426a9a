use Rattle.std.proofs.Common.{◌≡◌, List, Some, None, sym, ap, ◌∙◌, subst}
use Rattle.std.specs.List.{find}
use Rattle.notify_outbox.specs.Items.{is_open, is_to_send}
use Rattle.notify_outbox.specs.Outbox.{OutboxData}
use Rattle.notify_outbox.specs.Queues.{in_order, joined, least_from}
use Rattle.notify_outbox.specs.declared.queues.Queue.{Queue}
use Rattle.notify_outbox.proofs.LateLemmas.{found_here, took_there}
use Rattle.notify_outbox.proofs.LeastLemmas.{took_none, front_found, place_filled}
use Rattle.notify_outbox.proofs.outbox.Outbox.first_to_send.Goals as goal

pub returns-in-None : goal.returns-in-None
returns-in-None g c =
    let queues = c.self.inside.queues.items in
    let none = subst (λ (qs : List Queue). least_from (is_open (g.T.Tree.nodes c.args.tree.now)) None 0 qs ≡ None) c.deref.ensures.value (sym c.in-None.ensures) in
    let front = (took_none (is_open (g.T.Tree.nodes c.args.tree.now)) queues c.self.invariant.0.each none).0 in
    c.late_to_send.ensures
    ∙ sym (took_there (is_to_send (g.T.Tree.nodes c.args.tree.now)) (in_order (joined queues)) c.self.inside.late front).0
    ∙ ap (λ (o : OutboxData). find (is_to_send (g.T.Tree.nodes c.args.tree.now)) o.items) c.self.view_is

pub front_at-requires-clause-within : goal.front_at-requires-clause-within
front_at-requires-clause-within g c =
    let some = subst (λ (qs : List Queue). least_from (is_open (g.T.Tree.nodes c.args.tree.now)) None 0 qs ≡ Some c.in-Some.best) c.deref.ensures.value (sym c.in-Some.ensures) in
    (place_filled (is_open (g.T.Tree.nodes c.args.tree.now)) c.self.inside.queues.items c.in-Some.best some).0

pub front_at-requires-clause-some : goal.front_at-requires-clause-some
front_at-requires-clause-some g c =
    let some = subst (λ (qs : List Queue). least_from (is_open (g.T.Tree.nodes c.args.tree.now)) None 0 qs ≡ Some c.in-Some.best) c.deref.ensures.value (sym c.in-Some.ensures) in
    (place_filled (is_open (g.T.Tree.nodes c.args.tree.now)) c.self.inside.queues.items c.in-Some.best some).1

pub returns-in-Some : goal.returns-in-Some
returns-in-Some g c =
    let queues = c.self.inside.queues.items in
    let some = subst (λ (qs : List Queue). least_from (is_open (g.T.Tree.nodes c.args.tree.now)) None 0 qs ≡ Some c.in-Some.best) c.deref.ensures.value (sym c.in-Some.ensures) in
    let front = front_found (is_open (g.T.Tree.nodes c.args.tree.now)) queues c.in-Some.best c.front_at.result.now c.self.invariant.0.each c.self.invariant.0.apart some c.front_at.ensures in
    sym (found_here (is_to_send (g.T.Tree.nodes c.args.tree.now)) (in_order (joined queues)) c.self.inside.late c.front_at.result.now front)
    ∙ ap (λ (o : OutboxData). find (is_to_send (g.T.Tree.nodes c.args.tree.now)) o.items) c.self.view_is
