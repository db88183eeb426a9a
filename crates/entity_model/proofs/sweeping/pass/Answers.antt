use Rattle.std.proofs.Common.{sym, ap, ◌∙◌, subst, refl, arith}
use Rattle.notify_outbox.specs.Outbox.{OutboxData}
use Rattle.tree_model.proofs.GrowthLemmas.{tree_from_well_formed}
use Rattle.entity_model.specs.Entity.{EntityData, expired, still_waiting}
use Rattle.entity_model.specs.Sound.{IsSoundEntity}
use Rattle.entity_model.proofs.NumberLemmas.{expired_is}
use Rattle.entity_model.proofs.SoundLemmas.{sound_expired}
use Rattle.entity_model.proofs.sweeping.pass.Goals as goal

pub age-requires : goal.age-requires
age-requires g c = tree_from_well_formed (g.T.Tree.nodes c.entity.inside.tree) c.entity.invariant.tree

pub invariant_of-entity : goal.invariant_of-entity
invariant_of-entity g c =
    let before : EntityData = record { home = c.entity.inside.home; nodes = g.T.Tree.nodes c.entity.inside.tree; next = c.entity.inside.next; last = c.entity.inside.last; items = c.entity.inside.outbox.items; numbered = c.entity.inside.outbox.count } in
    let left : OutboxData → EntityData = λ o. record before { nodes = g.T.Tree.nodes c.age.new.tree; last = c.args.moment; items = o.items; numbered = o.count } in
    subst IsSoundEntity (sym (ap left c.age.ensures.items ∙ expired_is before c.args.moment _ (still_waiting c.args.moment before.items) c.age.ensures.nodes refl))
    (sound_expired c.args.moment before (omega (arith, c.requires.later, ap (λ (e : EntityData). e.last) c.entity.view_is)) c.requires.last c.entity.invariant)

pub returns : goal.returns
returns g c =
    let before : EntityData = record { home = c.entity.inside.home; nodes = g.T.Tree.nodes c.entity.inside.tree; next = c.entity.inside.next; last = c.entity.inside.last; items = c.entity.inside.outbox.items; numbered = c.entity.inside.outbox.count } in
    let left : OutboxData → EntityData = λ o. record before { nodes = g.T.Tree.nodes c.age.new.tree; last = c.args.moment; items = o.items; numbered = o.count } in
    ap left c.age.ensures.items
    ∙ expired_is before c.args.moment _ (still_waiting c.args.moment before.items) c.age.ensures.nodes refl
    ∙ ap (expired c.args.moment) c.entity.view_is
