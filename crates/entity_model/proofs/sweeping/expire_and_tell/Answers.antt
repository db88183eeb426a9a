use Rattle.std.proofs.Common.{◌≡◌, ◌≤◌, true, sym, ap, ◌∙◌, subst, arith}
use Rattle.std.specs.List.{AllByRecursion}
use Rattle.notify_outbox.specs.Outbox.{OutboxData}
use Rattle.notify_outbox.specs.declared.item.Item.{Item}
use Rattle.tree_model.specs.Tree.{has, is_tree, live, overdue_numbers, DoAscend}
use Rattle.std.specs.Prelude.{not}
use Rattle.tree_model.proofs.GrowthLemmas.{ascending_from_tree, tree_from_well_formed}
use Rattle.tree_model.proofs.ManyLemmas.{ascending_filter}
use Rattle.entity_model.specs.Entity.{EntityData, expired, expired_told, still_waiting}
use Rattle.entity_model.specs.Expiry.{expiry_changes}
use Rattle.entity_model.specs.Sound.{IsSoundEntity}
use Rattle.entity_model.proofs.SoundLemmas.{sound_expired}
use Rattle.entity_model.proofs.SweepingLemmas.{told_by_expiry}
use Rattle.entity_model.proofs.TellingLemmas.{sound_telling}
use Rattle.entity_model.proofs.WaitingLemmas.{waiting_each}
use Rattle.entity_model.proofs.sweeping.expire_and_tell.Goals as goal

pub prepare_expiry-requires-clause-ascend : goal.prepare_expiry-requires-clause-ascend
prepare_expiry-requires-clause-ascend g c =
    let nodes = g.T.Tree.nodes c.entity.inside.tree in
    let moment = c.args.moment in
    let gone : c.args.gone.now ≡ overdue_numbers moment nodes = c.requires.gone ∙ sym (ap (λ (e : EntityData). overdue_numbers moment e.nodes) c.entity.view_is) in
    subst DoAscend (sym gone) (ascending_filter (λ r. not (has r.number (live moment nodes))) nodes (ascending_from_tree nodes (tree_from_well_formed nodes c.entity.invariant.tree)))

pub prepare_expiry-requires-clause-formed : goal.prepare_expiry-requires-clause-formed
prepare_expiry-requires-clause-formed g c = c.entity.invariant.tree

pub age_without-requires-clause-tree : goal.age_without-requires-clause-tree
age_without-requires-clause-tree g c = tree_from_well_formed (g.T.Tree.nodes c.entity.inside.tree) c.entity.invariant.tree

pub age_without-requires-clause-gone : goal.age_without-requires-clause-gone
age_without-requires-clause-gone g c = c.requires.gone ∙ sym (ap (λ (e : EntityData). overdue_numbers c.args.moment e.nodes) c.entity.view_is)

pub tell-requires-clause-order : goal.tell-requires-clause-order
tell-requires-clause-order g c =
    let before : EntityData = record { home = c.entity.inside.home; nodes = g.T.Tree.nodes c.entity.inside.tree; next = c.entity.inside.next; last = c.entity.inside.last; items = c.entity.inside.outbox.items; numbered = c.entity.inside.outbox.count } in
    let moment = c.args.moment in
    let waiting : c.age_without.new.outbox.items ≡ still_waiting moment before.items = ap (λ (o : OutboxData). o.items) c.age_without.ensures.items ∙ ap (still_waiting moment) c.prepare_expiry.ensures.items in
    let sound = sound_expired moment before (omega (arith, c.requires.later, ap (λ (e : EntityData). e.last) c.entity.view_is)) c.requires.last c.entity.invariant in
    subst (AllByRecursion (λ (i : Item). i.since ≤ moment)) (sym waiting) (waiting_each moment (still_waiting moment before.items) sound.waiting)

pub invariant_of-entity-2 : goal.invariant_of-entity-2
invariant_of-entity-2 g c =
    let before : EntityData = record { home = c.entity.inside.home; nodes = g.T.Tree.nodes c.entity.inside.tree; next = c.entity.inside.next; last = c.entity.inside.last; items = c.entity.inside.outbox.items; numbered = c.entity.inside.outbox.count } in
    let moment = c.args.moment in
    let sound = sound_expired moment before (omega (arith, c.requires.later, ap (λ (e : EntityData). e.last) c.entity.view_is)) c.requires.last c.entity.invariant in
    let gone : c.args.gone.now ≡ overdue_numbers moment before.nodes = c.requires.gone ∙ sym (ap (λ (e : EntityData). overdue_numbers moment e.nodes) c.entity.view_is) in
    let waiting : c.age_without.new.outbox.items ≡ still_waiting moment before.items = ap (λ (o : OutboxData). o.items) c.age_without.ensures.items ∙ ap (still_waiting moment) c.prepare_expiry.ensures.items in
    let count : c.age_without.new.outbox.count ≡ before.numbered = ap (λ (o : OutboxData). o.count) c.age_without.ensures.items ∙ c.prepare_expiry.ensures.count in
    subst IsSoundEntity (sym (told_by_expiry before moment c.args.gone.now c.in_ok-told.told sound (tree_from_well_formed before.nodes c.entity.invariant.tree) gone c.in_ok-told.ensures.told _ _ _ _ _ _ c.age_without.ensures.nodes c.tell.ensures.nodes waiting count c.tell.ensures.items c.tell.ensures.count))
    (sound_telling before.nodes (overdue_numbers moment before.nodes) (expiry_changes moment before.nodes) (expired moment before) sound)

pub returns-clause-ok : goal.returns-clause-ok
returns-clause-ok g c =
    let before : EntityData = record { home = c.entity.inside.home; nodes = g.T.Tree.nodes c.entity.inside.tree; next = c.entity.inside.next; last = c.entity.inside.last; items = c.entity.inside.outbox.items; numbered = c.entity.inside.outbox.count } in
    let moment = c.args.moment in
    let sound = sound_expired moment before (omega (arith, c.requires.later, ap (λ (e : EntityData). e.last) c.entity.view_is)) c.requires.last c.entity.invariant in
    let gone : c.args.gone.now ≡ overdue_numbers moment before.nodes = c.requires.gone ∙ sym (ap (λ (e : EntityData). overdue_numbers moment e.nodes) c.entity.view_is) in
    let waiting : c.age_without.new.outbox.items ≡ still_waiting moment before.items = ap (λ (o : OutboxData). o.items) c.age_without.ensures.items ∙ ap (still_waiting moment) c.prepare_expiry.ensures.items in
    let count : c.age_without.new.outbox.count ≡ before.numbered = ap (λ (o : OutboxData). o.count) c.age_without.ensures.items ∙ c.prepare_expiry.ensures.count in
    told_by_expiry before moment c.args.gone.now c.in_ok-told.told sound (tree_from_well_formed before.nodes c.entity.invariant.tree) gone c.in_ok-told.ensures.told _ _ _ _ _ _ c.age_without.ensures.nodes c.tell.ensures.nodes waiting count c.tell.ensures.items c.tell.ensures.count
    ∙ ap (expired_told moment) c.entity.view_is

pub tell-requires-clause-tree : goal.tell-requires-clause-tree
tell-requires-clause-tree g c =
    let before : EntityData = record { home = c.entity.inside.home; nodes = g.T.Tree.nodes c.entity.inside.tree; next = c.entity.inside.next; last = c.entity.inside.last; items = c.entity.inside.outbox.items; numbered = c.entity.inside.outbox.count } in
    let moment = c.args.moment in
    let sound = sound_expired moment before (omega (arith, c.requires.later, ap (λ (e : EntityData). e.last) c.entity.view_is)) c.requires.last c.entity.invariant in
    subst (λ nodes. is_tree nodes ≡ true) (sym c.age_without.ensures.nodes) (tree_from_well_formed (live moment before.nodes) sound.tree)
