use Rattle.std.proofs.Common.{◌≡◌, ◌≤◌, [], true, false, refl, sym, ap, ◌∙◌, subst}
use Rattle.std.specs.List.{AllByRecursion}
use Rattle.notify_outbox.specs.declared.item.Item.{Item}
use Rattle.tree_model.specs.Changes.{creation_changes}
use Rattle.entity_model.specs.Entity.{EntityData, copy_requests}
use Rattle.entity_model.specs.Sound.{IsSoundEntity}
use Rattle.entity_model.proofs.WaitingLemmas.{waiting_each}
use Rattle.create_delete.specs.Joining.{MayJoin, gone_by}
use Rattle.create_delete.specs.Telling.{joined_told}
use Rattle.create_delete.proofs.CarriedLemmas.{appended, joined_ascend, joined_carried, joined_sound}
use Rattle.tree_model.specs.Tree.{is_tree}
use Rattle.tree_model.proofs.GrowthLemmas.{tree_from_well_formed}
use Rattle.create_delete.specs.Changing.{nodes_joined}
use Rattle.create_delete.proofs.RightCreateLemmas.{joins_sound}
use Rattle.create_delete.proofs.UnheardLemmas.{unheard_joined}
use Rattle.create_delete.proofs.creation.apply.Goals as goal

pub prepare_creation-requires-clause-order : goal.prepare_creation-requires-clause-order
prepare_creation-requires-clause-order g c =
    let before : EntityData = record { home = c.entity.inside.home; nodes = g.T.Tree.nodes c.entity.inside.tree; next = c.entity.inside.next; last = c.entity.inside.last; items = c.entity.inside.outbox.items; numbered = c.entity.inside.outbox.count } in
    let r = c.args.prepared.resource in
    let f = c.args.prepared.update in
    let may : MayJoin before r f = subst (λ (e : EntityData). MayJoin e r f) (sym c.entity.view_is) c.requires.may in
    joined_ascend before r f c.entity.invariant may

-- where no subscription stands under the parent, nobody is told
pub prepare_creation-requires-clause-unheard : goal.prepare_creation-requires-clause-unheard
prepare_creation-requires-clause-unheard g c beside =
    let before : EntityData = record { home = c.entity.inside.home; nodes = g.T.Tree.nodes c.entity.inside.tree; next = c.entity.inside.next; last = c.entity.inside.last; items = c.entity.inside.outbox.items; numbered = c.entity.inside.outbox.count } in
    let r = c.args.prepared.resource in
    let f = c.args.prepared.update in
    let may : MayJoin before r f = subst (λ (e : EntityData). MayJoin e r f) (sym c.entity.view_is) c.requires.may in
    unheard_joined before r f c.entity.invariant may beside

pub prepare_creation-requires-clause-unsent : goal.prepare_creation-requires-clause-unsent
prepare_creation-requires-clause-unsent g c =
    subst (λ (e : EntityData). c.args.prepared.is_copied ≡ false → copy_requests e.home e.nodes (creation_changes e.nodes c.args.prepared.resource (gone_by c.args.prepared.update)) ≡ []) (sym c.entity.view_is) c.requires.unsent

pub put_new_resource-requires : goal.put_new_resource-requires
put_new_resource-requires g c =
    let before : EntityData = record { home = c.entity.inside.home; nodes = g.T.Tree.nodes c.entity.inside.tree; next = c.entity.inside.next; last = c.entity.inside.last; items = c.entity.inside.outbox.items; numbered = c.entity.inside.outbox.count } in
    let r = c.args.prepared.resource in
    let f = c.args.prepared.update in
    let may : MayJoin before r f = subst (λ (e : EntityData). MayJoin e r f) (sym c.entity.view_is) c.requires.may in
    record { entity = before; stand = refl; last = refl; sound = c.entity.invariant; may = may }

pub tell-requires-clause-order : goal.tell-requires-clause-order
tell-requires-clause-order g c =
    subst (AllByRecursion (λ (i : Item). i.since ≤ c.entity.inside.last)) (sym c.prepare_creation.ensures.items) (waiting_each c.entity.inside.last c.entity.inside.outbox.items c.entity.invariant.waiting)

pub invariant_of-entity-2 : goal.invariant_of-entity-2
invariant_of-entity-2 g c =
    let before : EntityData = record { home = c.entity.inside.home; nodes = g.T.Tree.nodes c.entity.inside.tree; next = c.entity.inside.next; last = c.entity.inside.last; items = c.entity.inside.outbox.items; numbered = c.entity.inside.outbox.count } in
    let r = c.args.prepared.resource in
    let f = c.args.prepared.update in
    let may : MayJoin before r f = subst (λ (e : EntityData). MayJoin e r f) (sym c.entity.view_is) c.requires.may in
    subst IsSoundEntity (sym (joined_carried before r f c.in_ok-told.told c.entity.invariant may c.in_ok-told.ensures.told _ _ _ _ c.in_ok-put_new_resource.ensures.ok c.tell.ensures.nodes (appended before _ _ _ _ _ c.prepare_creation.ensures.items c.prepare_creation.ensures.count c.tell.ensures.items c.tell.ensures.count)))
    (joined_sound before r f c.entity.invariant may)

pub returns-clause-after : goal.returns-clause-after
returns-clause-after g c =
    let before : EntityData = record { home = c.entity.inside.home; nodes = g.T.Tree.nodes c.entity.inside.tree; next = c.entity.inside.next; last = c.entity.inside.last; items = c.entity.inside.outbox.items; numbered = c.entity.inside.outbox.count } in
    let r = c.args.prepared.resource in
    let f = c.args.prepared.update in
    let may : MayJoin before r f = subst (λ (e : EntityData). MayJoin e r f) (sym c.entity.view_is) c.requires.may in
    joined_carried before r f c.in_ok-told.told c.entity.invariant may c.in_ok-told.ensures.told _ _ _ _ c.in_ok-put_new_resource.ensures.ok c.tell.ensures.nodes (appended before _ _ _ _ _ c.prepare_creation.ensures.items c.prepare_creation.ensures.count c.tell.ensures.items c.tell.ensures.count)
    ∙ ap (λ (e : EntityData). joined_told e r f) c.entity.view_is

pub tell-requires-clause-tree : goal.tell-requires-clause-tree
tell-requires-clause-tree g c =
    let before : EntityData = record { home = c.entity.inside.home; nodes = g.T.Tree.nodes c.entity.inside.tree; next = c.entity.inside.next; last = c.entity.inside.last; items = c.entity.inside.outbox.items; numbered = c.entity.inside.outbox.count } in
    let r = c.args.prepared.resource in
    let f = c.args.prepared.update in
    let may : MayJoin before r f = subst (λ (e : EntityData). MayJoin e r f) (sym c.entity.view_is) c.requires.may in
    subst (λ nodes. is_tree nodes ≡ true) (sym c.in_ok-put_new_resource.ensures.ok)
    (tree_from_well_formed (nodes_joined before.last before.nodes r f) (joins_sound before r f c.entity.invariant may).tree)
