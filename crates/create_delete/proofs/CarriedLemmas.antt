-- What is carried out and told: the entity that an operation leaves.
use Rattle.std.proofs.Common.{◌≡◌, ℕ, ◌+◌, List, ◌++◌, map, true, Option, Some, None, sym, ap, ◌∙◌, subst}
use Rattle.std.specs.List.{filter}
use Rattle.m2m_names.specs.declared.attributes.Attr.{Attr}
use Rattle.notify_outbox.specs.declared.item.Item.{Item}
use Rattle.primitive_json.specs.declared.note.NoteParts.{NoteParts}
use Rattle.resource_model.specs.Resource.{ResourceData, has_number}
use Rattle.subscription_match.specs.Notices.{notes_of_all}
use Rattle.tree_model.specs.Changes.{creation_changes, deletion_changes, removal_changes, update_changes}
use Rattle.tree_model.specs.Tree.{instance_size, is_at_or_below, is_tree, without, DoAscend}
use Rattle.tree_model.proofs.GrowthLemmas.{ascending_from_tree, tree_from_well_formed}
use Rattle.tree_model.proofs.ManyLemmas.{ascending_filter}
use Rattle.tree_model.proofs.OrderLemmas.{placed_stands}
use Rattle.entity_model.specs.Entity.{EntityData, items_from, numbered_after}
use Rattle.entity_model.specs.Sound.{spares_first, IsSoundEntity}
use Rattle.entity_model.specs.Telling.{all_lowered_to, IsTold}
use Rattle.entity_model.specs.declared.told.Told.{Told}
use Rattle.entity_model.proofs.ExpiryLemmas.{those_all}
use Rattle.entity_model.proofs.SoundLemmas.{sound_removed}
use Rattle.entity_model.proofs.SweepingLemmas.{told_done}
use Rattle.entity_model.proofs.TellingLemmas.{sound_telling}
use Rattle.create_delete.specs.Changes.{deleted}
use Rattle.create_delete.specs.Changing.{after_joining, nodes_joined, nodes_updated, pushed_by}
use Rattle.create_delete.specs.Joining.{gone_by, MayJoin}
use Rattle.create_delete.specs.NewResource.{IsReplacement}
use Rattle.create_delete.specs.Telling.{joined_told, numbers_below, removed_told, updated_told}
use Rattle.create_delete.specs.declared.joining.ContainerUpdate.{ContainerUpdate}
use Rattle.create_delete.proofs.KeptToldLemmas.{keeps_joined, keeps_removed, keeps_updated, leaves_told}
use Rattle.create_delete.proofs.PushingLemmas.{evicted_ascend, none_ascend}
use Rattle.create_delete.proofs.RightCreateLemmas.{joins_sound}
use Rattle.create_delete.proofs.UpdatedLemmas.{sound_updated}
use Rattle.container_limits.specs.Limits.{limits_of}

-- what is appended behind what was kept
pub record IsAppended (e : EntityData) (notes : List NoteParts) (items : List Item) (numbered : ℕ) : Type 0 where
  pub items_are : items ≡ e.items ++ items_from e.numbered e.last notes
  pub counted : numbered ≡ numbered_after e.numbered notes

pub appended : (e : EntityData) (notes : List NoteParts) (kept items : List Item) (count numbered : ℕ) → kept ≡ e.items → count ≡ e.numbered → items ≡ kept ++ items_from count e.last notes → numbered ≡ numbered_after count notes → IsAppended e notes items numbered
appended e notes kept items count numbered same_items same_count puts counts = record {
  items_are =
      puts ∙ ap (λ (xs : List Item). xs ++ items_from count e.last notes) same_items
      ∙ ap (λ (n : ℕ). e.items ++ items_from n e.last notes) same_count;
  counted = counts ∙ ap (λ (n : ℕ). numbered_after n notes) same_count;
}

-- ---- a Create

-- what a new resource pushes out ascends
pub joined_ascend : (e : EntityData) (r : ResourceData) (f : Option ContainerUpdate) → IsSoundEntity e → MayJoin e r f → DoAscend (gone_by f)
joined_ascend e r None sound may = none_ascend
joined_ascend e r (Some f) sound may =
    subst DoAscend (sym may.gone)
    (evicted_ascend (limits_of may.parent) (Some (instance_size r)) e.last may.parent.number e.nodes (tree_from_well_formed e.nodes sound.tree))

pub joined_carried : (e : EntityData) (r : ResourceData) (f : Option ContainerUpdate) (told : Told) → IsSoundEntity e → MayJoin e r f → IsTold e.home e.nodes (gone_by f) (creation_changes e.nodes r (gone_by f)) told → (grown nodes : List ResourceData) (items : List Item) (numbered : ℕ) → grown ≡ nodes_joined e.last e.nodes r f → nodes ≡ all_lowered_to told.left.items grown → IsAppended e told.notes.items items numbered → record { home = e.home; nodes = nodes; next = e.next + 1; last = e.last; items = items; numbered = numbered } ≡ joined_told e r f
joined_carried e r f told sound may is grown nodes items numbered first lowered puts =
    let changes = creation_changes e.nodes r (gone_by f) in
    told_done e.nodes (gone_by f) changes (after_joining e r f) told (joins_sound e r f sound may) is
    (leaves_told e.nodes (notes_of_all e.home e.nodes (gone_by f) changes) (nodes_joined e.last e.nodes r f) (keeps_joined e.home e sound (gone_by f) r changes f may))
    nodes items numbered (lowered ∙ ap (all_lowered_to told.left.items) first) puts.items_are puts.counted

pub joined_sound : (e : EntityData) (r : ResourceData) (f : Option ContainerUpdate) → IsSoundEntity e → MayJoin e r f → IsSoundEntity (joined_told e r f)
joined_sound e r f sound may = sound_telling e.nodes (gone_by f) (creation_changes e.nodes r (gone_by f)) (after_joining e r f) (joins_sound e r f sound may)

-- ---- an Update

pub updated_carried : (e : EntityData) (r c : ResourceData) (named : List Attr) (gone : List ℕ) (told : Told) → IsSoundEntity e → IsReplacement e c → gone ≡ pushed_by e c → IsTold e.home e.nodes gone (update_changes e.nodes r c named gone) told → (left nodes : List ResourceData) (items : List Item) (numbered : ℕ) → left ≡ nodes_updated e c → nodes ≡ all_lowered_to told.left.items left → IsAppended e told.notes.items items numbered → record { home = e.home; nodes = nodes; next = e.next; last = e.last; items = items; numbered = numbered } ≡ updated_told e r c named gone
updated_carried e r c named gone told sound new out is left nodes items numbered first lowered puts =
    let pushed : List ℕ = pushed_by e c in
    told_done e.nodes pushed (update_changes e.nodes r c named pushed) (record e { nodes = nodes_updated e c }) told (sound_updated e c sound new)
    (subst (λ (ns : List ℕ). IsTold e.home e.nodes ns (update_changes e.nodes r c named ns) told) out is)
    (leaves_told e.nodes (notes_of_all e.home e.nodes pushed (update_changes e.nodes r c named pushed)) (nodes_updated e c) (keeps_updated e.home e sound pushed r c named new))
    nodes items numbered (lowered ∙ ap (all_lowered_to told.left.items) first) puts.items_are puts.counted
    ∙ ap (updated_told e r c named) (sym out)

pub updated_told_sound : (e : EntityData) (r c : ResourceData) (named : List Attr) (gone : List ℕ) → IsSoundEntity e → IsReplacement e c → IsSoundEntity (updated_told e r c named gone)
updated_told_sound e r c named gone sound new = sound_telling e.nodes gone (update_changes e.nodes r c named gone) (record e { nodes = nodes_updated e c }) (sound_updated e c sound new)

-- ---- a Delete

-- what stands below a resource goes in order of creation
pub below_ascend : (n : ℕ) (nodes : List ResourceData) → is_tree nodes ≡ true → DoAscend (numbers_below n nodes)
below_ascend n nodes tree = ascending_filter (is_at_or_below n nodes) nodes (ascending_from_tree nodes tree)

-- and its removal is the deletion
pub below_removed : (n : ℕ) (nodes : List ResourceData) → is_tree nodes ≡ true → removal_changes nodes (numbers_below n nodes) ≡ deletion_changes nodes n
below_removed n nodes tree =
    ap (map deleted) (those_all nodes (filter (is_at_or_below n nodes) nodes) (λ k s got. placed_stands (is_at_or_below n nodes) nodes k s tree got))

pub removed_carried : (e : EntityData) (n : ℕ) (told : Told) → IsSoundEntity e → spares_first (has_number n) e.nodes ≡ true → IsTold e.home e.nodes (numbers_below n e.nodes) (deletion_changes e.nodes n) told → (left nodes : List ResourceData) (items : List Item) (numbered : ℕ) → left ≡ without (has_number n) e.nodes → nodes ≡ all_lowered_to told.left.items left → IsAppended e told.notes.items items numbered → record { home = e.home; nodes = nodes; next = e.next; last = e.last; items = items; numbered = numbered } ≡ removed_told e n
removed_carried e n told sound spared is left nodes items numbered first lowered puts =
    told_done e.nodes (numbers_below n e.nodes) (deletion_changes e.nodes n) (record e { nodes = without (has_number n) e.nodes }) told (sound_removed (has_number n) e sound spared) is
    (leaves_told e.nodes (notes_of_all e.home e.nodes (numbers_below n e.nodes) (deletion_changes e.nodes n)) (without (has_number n) e.nodes) (keeps_removed e.home e sound (numbers_below n e.nodes) (has_number n) (deletion_changes e.nodes n)))
    nodes items numbered (lowered ∙ ap (all_lowered_to told.left.items) first) puts.items_are puts.counted

pub removed_told_sound : (e : EntityData) (n : ℕ) → IsSoundEntity e → spares_first (has_number n) e.nodes ≡ true → IsSoundEntity (removed_told e n)
removed_told_sound e n sound spared = sound_telling e.nodes (numbers_below n e.nodes) (deletion_changes e.nodes n) (record e { nodes = without (has_number n) e.nodes }) (sound_removed (has_number n) e sound spared)
