use Rattle.std.proofs.Common.{◌≡◌, ◌≤◌, ℕ, List, [], Some, true, sym, ap, ◌∙◌, subst}
use Rattle.std.specs.List.{AllByRecursion}
use Rattle.notify_outbox.specs.declared.item.Item.{Item}
use Rattle.subscription_match.specs.Notices.{notes_of_all}
use Rattle.tree_model.specs.Changes.{update_changes}
use Rattle.tree_model.specs.Tree.{at, is_tree, DoAscend}
use Rattle.tree_model.proofs.GrowthLemmas.{tree_from_well_formed}
use Rattle.entity_model.specs.Entity.{EntityData}
use Rattle.entity_model.specs.Sound.{IsSoundEntity}
use Rattle.entity_model.specs.Telling.{IsTold}
use Rattle.entity_model.proofs.WaitingLemmas.{waiting_each}
use Rattle.create_delete.specs.Changing.{nodes_updated, pushed_by}
use Rattle.create_delete.specs.NewResource.{IsReplacement}
use Rattle.create_delete.specs.Telling.{GoUnsent, updated_told}
use Rattle.create_delete.proofs.CarriedLemmas.{appended, updated_carried, updated_told_sound}
use Rattle.create_delete.proofs.PushingLemmas.{pushed_ascend}
use Rattle.create_delete.proofs.ReplacedLemmas.{stood_there}
use Rattle.create_delete.proofs.UnheardLemmas.{unheard_updated}
use Rattle.create_delete.proofs.UnsentLemmas.{pushed_unsent}
use Rattle.create_delete.proofs.UpdatedLemmas.{sound_updated, updated_after}
use Rattle.create_delete.proofs.updating.apply.Goals as goal

pub prepare_update-requires-clause-order : goal.prepare_update-requires-clause-order
prepare_update-requires-clause-order g c =
    let before : EntityData = record { home = c.entity.inside.home; nodes = g.T.Tree.nodes c.entity.inside.tree; next = c.entity.inside.next; last = c.entity.inside.last; items = c.entity.inside.outbox.items; numbered = c.entity.inside.outbox.count } in
    let now = c.args.prepared.resource in
    let gone : c.args.prepared.gone ≡ pushed_by before now = subst (λ (e : EntityData). c.args.prepared.gone ≡ pushed_by e now) (sym c.entity.view_is) c.requires.gone in
    subst DoAscend (sym (c.entries.ensures ∙ gone)) (pushed_ascend before now (tree_from_well_formed before.nodes c.entity.invariant.tree))

-- where no subscription stands under it, nobody is told
pub prepare_update-requires-clause-unheard : goal.prepare_update-requires-clause-unheard
prepare_update-requires-clause-unheard g c r beside =
    let before : EntityData = record { home = c.entity.inside.home; nodes = g.T.Tree.nodes c.entity.inside.tree; next = c.entity.inside.next; last = c.entity.inside.last; items = c.entity.inside.outbox.items; numbered = c.entity.inside.outbox.count } in
    let now = c.args.prepared.resource in
    let gone : c.args.prepared.gone ≡ pushed_by before now = subst (λ (e : EntityData). c.args.prepared.gone ≡ pushed_by e now) (sym c.entity.view_is) c.requires.gone in
    subst (λ (ns : List ℕ). notes_of_all before.home before.nodes ns (update_changes before.nodes r now c.args.prepared.named ns) ≡ []) (sym (c.entries.ensures ∙ gone)) (unheard_updated before now r c.args.prepared.named c.entity.invariant beside)

pub prepare_update-requires-clause-unsent : goal.prepare_update-requires-clause-unsent
prepare_update-requires-clause-unsent g c =
    let before : EntityData = record { home = c.entity.inside.home; nodes = g.T.Tree.nodes c.entity.inside.tree; next = c.entity.inside.next; last = c.entity.inside.last; items = c.entity.inside.outbox.items; numbered = c.entity.inside.outbox.count } in
    let now = c.args.prepared.resource in
    let gone : c.args.prepared.gone ≡ pushed_by before now = subst (λ (e : EntityData). c.args.prepared.gone ≡ pushed_by e now) (sym c.entity.view_is) c.requires.gone in
    subst (GoUnsent before.home before.nodes now.number) (sym (c.entries.ensures ∙ gone)) (pushed_unsent before now (tree_from_well_formed before.nodes c.entity.invariant.tree))

pub remove_all-requires : goal.remove_all-requires
remove_all-requires g c =
    let before : EntityData = record { home = c.entity.inside.home; nodes = g.T.Tree.nodes c.entity.inside.tree; next = c.entity.inside.next; last = c.entity.inside.last; items = c.entity.inside.outbox.items; numbered = c.entity.inside.outbox.count } in
    let now = c.args.prepared.resource in
    let may : IsReplacement before now = subst (λ (e : EntityData). IsReplacement e now) (sym c.entity.view_is) c.requires.may in
    let gone : c.args.prepared.gone ≡ pushed_by before now = subst (λ (e : EntityData). c.args.prepared.gone ≡ pushed_by e now) (sym c.entity.view_is) c.requires.gone in
    subst DoAscend (sym (c.entries-2.ensures ∙ gone)) (pushed_ascend before now (tree_from_well_formed before.nodes c.entity.invariant.tree))

pub tell-requires-clause-order : goal.tell-requires-clause-order
tell-requires-clause-order g c =
    subst (AllByRecursion (λ (i : Item). i.since ≤ c.entity.inside.last)) (sym c.prepare_update.ensures.items) (waiting_each c.entity.inside.last c.entity.inside.outbox.items c.entity.invariant.waiting)

pub invariant_of-entity-2 : goal.invariant_of-entity-2
invariant_of-entity-2 g c =
    let before : EntityData = record { home = c.entity.inside.home; nodes = g.T.Tree.nodes c.entity.inside.tree; next = c.entity.inside.next; last = c.entity.inside.last; items = c.entity.inside.outbox.items; numbered = c.entity.inside.outbox.count } in
    let now = c.args.prepared.resource in
    let may : IsReplacement before now = subst (λ (e : EntityData). IsReplacement e now) (sym c.entity.view_is) c.requires.may in
    let gone : c.args.prepared.gone ≡ pushed_by before now = subst (λ (e : EntityData). c.args.prepared.gone ≡ pushed_by e now) (sym c.entity.view_is) c.requires.gone in
    let stood = stood_there before.nodes now may.stood in
    let told = subst (λ (ns : List ℕ). IsTold before.home before.nodes ns (update_changes before.nodes stood.before now c.args.prepared.named ns) c.in_ok-told.told) c.entries.ensures (c.in_ok-told.ensures.told stood.before stood.found) in
    let first = updated_after before now _ _ _ c.replace.ensures (c.entries-2.ensures ∙ gone) c.remove_all.ensures in
    subst IsSoundEntity (sym (updated_carried before stood.before now c.args.prepared.named c.args.prepared.gone c.in_ok-told.told c.entity.invariant may gone told _ _ _ _ first c.tell.ensures.nodes (appended before _ _ _ _ _ c.prepare_update.ensures.items c.prepare_update.ensures.count c.tell.ensures.items c.tell.ensures.count)))
    (updated_told_sound before stood.before now c.args.prepared.named c.args.prepared.gone c.entity.invariant may)

pub returns-clause-after : goal.returns-clause-after
returns-clause-after g c r found =
    let before : EntityData = record { home = c.entity.inside.home; nodes = g.T.Tree.nodes c.entity.inside.tree; next = c.entity.inside.next; last = c.entity.inside.last; items = c.entity.inside.outbox.items; numbered = c.entity.inside.outbox.count } in
    let now = c.args.prepared.resource in
    let may : IsReplacement before now = subst (λ (e : EntityData). IsReplacement e now) (sym c.entity.view_is) c.requires.may in
    let gone : c.args.prepared.gone ≡ pushed_by before now = subst (λ (e : EntityData). c.args.prepared.gone ≡ pushed_by e now) (sym c.entity.view_is) c.requires.gone in
    let stands : at now.number before.nodes ≡ Some r = ap (λ (e : EntityData). at now.number e.nodes) c.entity.view_is ∙ found in
    let told = subst (λ (ns : List ℕ). IsTold before.home before.nodes ns (update_changes before.nodes r now c.args.prepared.named ns) c.in_ok-told.told) c.entries.ensures (c.in_ok-told.ensures.told r stands) in
    let first = updated_after before now _ _ _ c.replace.ensures (c.entries-2.ensures ∙ gone) c.remove_all.ensures in
    updated_carried before r now c.args.prepared.named c.args.prepared.gone c.in_ok-told.told c.entity.invariant may gone told _ _ _ _ first c.tell.ensures.nodes (appended before _ _ _ _ _ c.prepare_update.ensures.items c.prepare_update.ensures.count c.tell.ensures.items c.tell.ensures.count)
    ∙ ap (λ (e : EntityData). updated_told e r now c.args.prepared.named c.args.prepared.gone) c.entity.view_is

pub tell-requires-clause-tree : goal.tell-requires-clause-tree
tell-requires-clause-tree g c =
    let before : EntityData = record { home = c.entity.inside.home; nodes = g.T.Tree.nodes c.entity.inside.tree; next = c.entity.inside.next; last = c.entity.inside.last; items = c.entity.inside.outbox.items; numbered = c.entity.inside.outbox.count } in
    let now = c.args.prepared.resource in
    let may : IsReplacement before now = subst (λ (e : EntityData). IsReplacement e now) (sym c.entity.view_is) c.requires.may in
    let gone : c.args.prepared.gone ≡ pushed_by before now = subst (λ (e : EntityData). c.args.prepared.gone ≡ pushed_by e now) (sym c.entity.view_is) c.requires.gone in
    subst (λ nodes. is_tree nodes ≡ true) (sym (updated_after before now _ _ _ c.replace.ensures (c.entries-2.ensures ∙ gone) c.remove_all.ensures))
    (tree_from_well_formed (nodes_updated before now) (sound_updated before now c.entity.invariant may).tree)
