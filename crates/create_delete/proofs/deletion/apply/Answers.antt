use Rattle.std.proofs.Common.{◌≡◌, ◌≤◌, true, sym, ap, ◌∙◌, subst}
use Rattle.std.specs.List.{AllByRecursion}
use Rattle.notify_outbox.specs.declared.item.Item.{Item}
use Rattle.entity_model.specs.Entity.{EntityData}
use Rattle.entity_model.specs.Sound.{IsSoundEntity}
use Rattle.entity_model.proofs.WaitingLemmas.{waiting_each}
use Rattle.create_delete.specs.Telling.{removed_told}
use Rattle.create_delete.proofs.CarriedLemmas.{appended, removed_carried, removed_told_sound}
use Rattle.create_delete.proofs.DeletionLemmas.{is_deletable, deletable_there, deletable_spared}
use Rattle.resource_model.specs.Resource.{has_number}
use Rattle.tree_model.specs.Tree.{is_tree}
use Rattle.tree_model.proofs.GrowthLemmas.{tree_from_well_formed}
use Rattle.tree_model.proofs.KeptLemmas.{is_tree-without}
use Rattle.create_delete.proofs.deletion.apply.Goals as goal

pub prepare_deletion-requires-clause-there : goal.prepare_deletion-requires-clause-there
prepare_deletion-requires-clause-there g c =
    let before : EntityData = record { home = c.entity.inside.home; nodes = g.T.Tree.nodes c.entity.inside.tree; next = c.entity.inside.next; last = c.entity.inside.last; items = c.entity.inside.outbox.items; numbered = c.entity.inside.outbox.count } in
    let may : is_deletable c.args.target before ≡ true = subst (λ (e : EntityData). is_deletable c.args.target e ≡ true) (sym c.entity.view_is) c.requires in
    deletable_there c.args.target before may

pub prepare_deletion-requires-clause-formed : goal.prepare_deletion-requires-clause-formed
prepare_deletion-requires-clause-formed g c = c.entity.invariant.tree

pub remove_subtree-requires : goal.remove_subtree-requires
remove_subtree-requires g c =
    let before : EntityData = record { home = c.entity.inside.home; nodes = g.T.Tree.nodes c.entity.inside.tree; next = c.entity.inside.next; last = c.entity.inside.last; items = c.entity.inside.outbox.items; numbered = c.entity.inside.outbox.count } in
    let may : is_deletable c.args.target before ≡ true = subst (λ (e : EntityData). is_deletable c.args.target e ≡ true) (sym c.entity.view_is) c.requires in
    deletable_there c.args.target before may

pub tell-requires-clause-order : goal.tell-requires-clause-order
tell-requires-clause-order g c =
    subst (AllByRecursion (λ (i : Item). i.since ≤ c.entity.inside.last)) (sym c.prepare_deletion.ensures.items) (waiting_each c.entity.inside.last c.entity.inside.outbox.items c.entity.invariant.waiting)

pub invariant_of-entity-2 : goal.invariant_of-entity-2
invariant_of-entity-2 g c =
    let before : EntityData = record { home = c.entity.inside.home; nodes = g.T.Tree.nodes c.entity.inside.tree; next = c.entity.inside.next; last = c.entity.inside.last; items = c.entity.inside.outbox.items; numbered = c.entity.inside.outbox.count } in
    let may : is_deletable c.args.target before ≡ true = subst (λ (e : EntityData). is_deletable c.args.target e ≡ true) (sym c.entity.view_is) c.requires in
    let spared = deletable_spared c.args.target before c.entity.invariant may in
    subst IsSoundEntity (sym (removed_carried before c.args.target c.in_ok-told.told c.entity.invariant spared c.in_ok-told.ensures.told _ _ _ _ c.remove_subtree.ensures c.tell.ensures.nodes (appended before _ _ _ _ _ c.prepare_deletion.ensures.items c.prepare_deletion.ensures.count c.tell.ensures.items c.tell.ensures.count)))
    (removed_told_sound before c.args.target c.entity.invariant spared)

pub returns-clause-ok : goal.returns-clause-ok
returns-clause-ok g c =
    let before : EntityData = record { home = c.entity.inside.home; nodes = g.T.Tree.nodes c.entity.inside.tree; next = c.entity.inside.next; last = c.entity.inside.last; items = c.entity.inside.outbox.items; numbered = c.entity.inside.outbox.count } in
    let may : is_deletable c.args.target before ≡ true = subst (λ (e : EntityData). is_deletable c.args.target e ≡ true) (sym c.entity.view_is) c.requires in
    removed_carried before c.args.target c.in_ok-told.told c.entity.invariant (deletable_spared c.args.target before c.entity.invariant may) c.in_ok-told.ensures.told _ _ _ _ c.remove_subtree.ensures c.tell.ensures.nodes (appended before _ _ _ _ _ c.prepare_deletion.ensures.items c.prepare_deletion.ensures.count c.tell.ensures.items c.tell.ensures.count)
    ∙ ap (λ (e : EntityData). removed_told e c.args.target) c.entity.view_is

pub tell-requires-clause-tree : goal.tell-requires-clause-tree
tell-requires-clause-tree g c =
    let nodes = g.T.Tree.nodes c.entity.inside.tree in
    subst (λ nodes. is_tree nodes ≡ true) (sym c.remove_subtree.ensures)
    (is_tree-without (has_number c.args.target) nodes (tree_from_well_formed nodes c.entity.invariant.tree))
