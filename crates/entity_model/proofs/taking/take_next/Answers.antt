use Rattle.std.proofs.Common.{sym, ap, ◌∙◌, subst}
use Rattle.notify_outbox.specs.Items.{is_to_send}
use Rattle.notify_outbox.specs.Outbox.{OutboxData}
use Rattle.entity_model.specs.Entity.{EntityData, next_note, without_next}
use Rattle.entity_model.specs.Sound.{IsSoundEntity}
use Rattle.entity_model.proofs.SoundLemmas.{sound_taken}
use Rattle.entity_model.proofs.taking.take_next.Goals as goal

pub invariant_of-entity : goal.invariant_of-entity
invariant_of-entity g c =
    let before : EntityData = record { home = c.entity.inside.home; nodes = g.T.Tree.nodes c.entity.inside.tree; next = c.entity.inside.next; last = c.entity.inside.last; items = c.entity.inside.outbox.items; numbered = c.entity.inside.outbox.count } in
    let left : OutboxData → EntityData = λ o. record before { items = o.items; numbered = o.count } in
    subst IsSoundEntity (ap left (sym c.take_next.ensures.rest)) (sound_taken (is_to_send before.nodes) before c.entity.invariant)

pub returns-clause-note : goal.returns-clause-note
returns-clause-note g c = c.take_next.ensures.note ∙ ap next_note c.entity.view_is

pub returns-clause-rest : goal.returns-clause-rest
returns-clause-rest g c =
    let before : EntityData = record { home = c.entity.inside.home; nodes = g.T.Tree.nodes c.entity.inside.tree; next = c.entity.inside.next; last = c.entity.inside.last; items = c.entity.inside.outbox.items; numbered = c.entity.inside.outbox.count } in
    let left : OutboxData → EntityData = λ o. record before { items = o.items; numbered = o.count } in
    ap left c.take_next.ensures.rest ∙ ap without_next c.entity.view_is
