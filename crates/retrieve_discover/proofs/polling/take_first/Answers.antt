use Rattle.std.proofs.Common.{sym, ap, ◌∙◌, subst}
use Rattle.notify_outbox.specs.Items.{waits_for}
use Rattle.notify_outbox.specs.Outbox.{OutboxData}
use Rattle.entity_model.specs.Entity.{EntityData}
use Rattle.entity_model.specs.Sound.{IsSoundEntity}
use Rattle.entity_model.proofs.SoundLemmas.{sound_taken}
use Rattle.retrieve_discover.specs.Polling.{without_waiting}
use Rattle.retrieve_discover.proofs.polling.take_first.Goals as goal

pub invariant_of-entity : goal.invariant_of-entity
invariant_of-entity g c =
    let before : EntityData = record { home = c.entity.inside.home; nodes = g.T.Tree.nodes c.entity.inside.tree; next = c.entity.inside.next; last = c.entity.inside.last; items = c.entity.inside.outbox.items; numbered = c.entity.inside.outbox.count } in
    let left : OutboxData → EntityData = λ o. record before { items = o.items; numbered = o.count } in
    subst IsSoundEntity (ap left (sym c.take_for-note.ensures.rest)) (sound_taken (waits_for c.args.channel) before c.entity.invariant)

pub returns : goal.returns
returns g c =
    let before : EntityData = record { home = c.entity.inside.home; nodes = g.T.Tree.nodes c.entity.inside.tree; next = c.entity.inside.next; last = c.entity.inside.last; items = c.entity.inside.outbox.items; numbered = c.entity.inside.outbox.count } in
    let left : OutboxData → EntityData = λ o. record before { items = o.items; numbered = o.count } in
    ap left c.take_for-note.ensures.rest ∙ ap (without_waiting c.args.channel) c.entity.view_is
