use Rattle.std.proofs.Common.{◌≡◌, ◌≤◌, ℕ, List, [], ◌∷◌, sym, ap, ◌∙◌, subst}
use Rattle.std.specs.List.{AllByRecursion}
use Rattle.notify_outbox.specs.Outbox.{OutboxData}
use Rattle.notify_outbox.specs.declared.item.Item.{Item}
use Rattle.entity_model.specs.Entity.{EntityData, with_notes}
use Rattle.entity_model.specs.Sound.{IsSoundEntity}
use Rattle.entity_model.proofs.WaitingLemmas.{waiting_each}
use Rattle.create_delete.proofs.CarriedLemmas.{appended}
use Rattle.create_delete.proofs.RelayingLemmas.{sound_noted}
use Rattle.create_delete.proofs.relaying.append.Goals as goal

pub append-requires-clause-order : goal.append-requires-clause-order
append-requires-clause-order g c =
    subst (AllByRecursion (λ (i : Item). i.since ≤ c.entity.inside.last)) (sym c.reserve.ensures.items) (waiting_each c.entity.inside.last c.entity.inside.outbox.items c.entity.invariant.waiting)

pub invariant_of-entity-2 : goal.invariant_of-entity-2
invariant_of-entity-2 g c =
    let before : EntityData = record { home = c.entity.inside.home; nodes = g.T.Tree.nodes c.entity.inside.tree; next = c.entity.inside.next; last = c.entity.inside.last; items = c.entity.inside.outbox.items; numbered = c.entity.inside.outbox.count } in
    let note = c.args.note in
    let puts = appended before (note ∷ []) c.reserve.new.self.items c.append.new.self.items c.reserve.new.self.count c.append.new.self.count c.reserve.ensures.items c.reserve.ensures.count (ap (λ (o : OutboxData). o.items) c.append.ensures) (ap (λ (o : OutboxData). o.count) c.append.ensures) in
    let noted : record before { items = c.append.new.self.items; numbered = c.append.new.self.count } ≡ with_notes (note ∷ []) before =
    ap (λ (items : List Item). record before { items = items; numbered = c.append.new.self.count }) puts.items_are
    ∙ ap (λ (n : ℕ). record before { items = (with_notes (note ∷ []) before).items; numbered = n }) puts.counted in
    subst IsSoundEntity (sym noted) (sound_noted note before c.entity.invariant)
