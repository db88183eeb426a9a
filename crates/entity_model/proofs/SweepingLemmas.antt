-- What is told, carried out; and what an expiry takes and tells.
use Rattle.std.proofs.Common.{◌≡◌, ◌≢◌, ℕ, List, [], ◌++◌, Bool, true, false, cond, Option, Some, None, inl, inr, sym, ap, ◌∙◌, subst}
use Rattle.std.proofs.lemmas.Bool.{cases_Bool}
use Rattle.std.specs.Option.{option_and_then}
use Rattle.notify_outbox.specs.declared.item.Item.{Item}
use Rattle.attribute_rules.specs.Kinds.{are_kinds}
use Rattle.primitive_json.specs.declared.note.NoteParts.{NoteParts}
use Rattle.resource_model.specs.Resource.{ResourceData}
use Rattle.subscription_match.specs.Spending.{left_to, nodes_spent}
use Rattle.subscription_match.specs.declared.drafts.DraftParts.{DraftParts}
use Rattle.subscription_match.specs.Notices.{notes_of_all}
use Rattle.tree_model.specs.Changes.{ChangeData, removal_changes}
use Rattle.tree_model.specs.Tree.{at, is_due, is_spared, is_tree, live, overdue_numbers, without}
use Rattle.tree_model.proofs.GrowthLemmas.{at-without, tree_from_well_formed}
use Rattle.tree_model.proofs.LiveLemmas.{without_none}
use Rattle.tree_model.proofs.OverdueLemmas.{all_live}
use Rattle.tree_model.proofs.QuietLemmas.{number_passes}
use Rattle.entity_model.specs.Entity.{EntityData, expired, expired_told, items_from, numbered_after, still_waiting, telling}
use Rattle.entity_model.specs.Expiry.{expiry_changes, is_some_due}
use Rattle.entity_model.specs.Sound.{IsSoundEntity}
use Rattle.entity_model.specs.Telling.{all_lowered_to, IsTold, LeavesWhoIsTold}
use Rattle.entity_model.specs.declared.told.Told.{Told}
use Rattle.entity_model.proofs.LoweringLemmas.{lowered_is, once_sorted}
use Rattle.entity_model.proofs.SpentLemmas.{counts_to}
use Rattle.entity_model.proofs.TellingLemmas.{nothing_told}

-- ---- what is told, carried out

-- appended in order, and with the subscriptions lowered one after another, it is what is told
pub told_done : (before : List ResourceData) (going : List ℕ) (changes : List ChangeData) (after : EntityData) (told : Told) → IsSoundEntity after → IsTold after.home before going changes told → LeavesWhoIsTold before (notes_of_all after.home before going changes) after.nodes → (nodes : List ResourceData) (items : List Item) (numbered : ℕ) → nodes ≡ all_lowered_to told.left.items after.nodes → items ≡ after.items ++ items_from after.numbered after.last told.notes.items → numbered ≡ numbered_after after.numbered told.notes.items → record after { nodes = nodes; items = items; numbered = numbered } ≡ telling before going changes after
told_done before going changes after told sound is leaves nodes items numbered lowered appended counted =
    let drafts : List DraftParts = notes_of_all after.home before going changes in
    let spent : nodes ≡ nodes_spent drafts after.nodes =
    lowered ∙ lowered_is before drafts after.nodes (tree_from_well_formed after.nodes sound.tree)
    (λ r old found left. (counts_to r old (number_passes are_kinds r.number after.nodes r sound.kinds found) left).some)
    leaves told.left.items (once_sorted told.left.items is.order) is.left in
    let with : List ResourceData → List Item → ℕ → EntityData = λ ns is n. record after { nodes = ns; items = is; numbered = n } in
    ap (λ (ns : List ResourceData). with ns items numbered) spent
    ∙ ap (λ (xs : List Item). with (nodes_spent drafts after.nodes) xs numbered) appended
    ∙ ap (λ (n : ℕ). with (nodes_spent drafts after.nodes) (after.items ++ items_from after.numbered after.last told.notes.items) n) counted
    ∙ ap (λ (notes : List NoteParts). with (nodes_spent drafts after.nodes) (after.items ++ items_from after.numbered after.last notes) (numbered_after after.numbered notes)) is.notes

-- a removal lets whoever stays stand as it was
stood : (b : Bool) (o : Option ResourceData) (r : ResourceData) → cond b o None ≡ Some r → o ≡ Some r
stood true o r is = is
stood false o r is = cc

pub without_leaves : (picks : ResourceData → Bool) (drafts : List DraftParts) (nodes : List ResourceData) → is_tree nodes ≡ true → LeavesWhoIsTold nodes drafts (without picks nodes)
without_leaves picks drafts nodes tree r found some =
    let was : at r.number nodes ≡ Some r = stood (is_spared picks nodes r.number) (at r.number nodes) r (sym (at-without picks r.number nodes tree) ∙ found) in
    sym (ap (option_and_then left_to) was)

-- ---- what an expiry takes

-- what is taken is due
pub some_due : (moment : ℕ) (nodes : List ResourceData) → is_tree nodes ≡ true → overdue_numbers moment nodes ≢ [] → is_some_due nodes moment ≡ true
some_due moment nodes tree some = elim (cases_Bool (is_some_due nodes moment)) [
  | inl t ↦ t
  | inr f ↦ absurd (some (all_live nodes moment tree (without_none (is_due nodes moment) nodes tree f)))
]

-- ---- what an expiry tells

-- where it takes nothing, it tells nothing
pub none_told : (moment : ℕ) (e : EntityData) → IsSoundEntity (expired moment e) → overdue_numbers moment e.nodes ≡ [] → expired_told moment e ≡ expired moment e
none_told moment e sound none = rw none (nothing_told e.nodes (expired moment e) sound)

-- and told and carried out it is what an expiry leaves
pub told_by_expiry : (e : EntityData) (moment : ℕ) (gone : List ℕ) (told : Told) → IsSoundEntity (expired moment e) → is_tree e.nodes ≡ true → gone ≡ overdue_numbers moment e.nodes → IsTold e.home e.nodes gone (removal_changes e.nodes gone) told → (nodes aged : List ResourceData) (items waiting : List Item) (numbered count : ℕ) → aged ≡ live moment e.nodes → nodes ≡ all_lowered_to told.left.items aged → waiting ≡ still_waiting moment e.items → count ≡ e.numbered → items ≡ waiting ++ items_from count moment told.notes.items → numbered ≡ numbered_after count told.notes.items → record e { nodes = nodes; last = moment; items = items; numbered = numbered } ≡ expired_told moment e
told_by_expiry e moment gone told sound tree all is nodes aged items waiting numbered count aged_is nodes_is waiting_is count_is items_is numbered_is =
    let notes : List ℕ → List DraftParts = λ ns. notes_of_all e.home e.nodes ns (removal_changes e.nodes ns) in
    told_done e.nodes (overdue_numbers moment e.nodes) (expiry_changes moment e.nodes) (expired moment e) told sound
    (subst (λ (ns : List ℕ). IsTold e.home e.nodes ns (removal_changes e.nodes ns) told) all is)
    (without_leaves (is_due e.nodes moment) (notes (overdue_numbers moment e.nodes)) e.nodes tree)
    nodes items numbered
    (nodes_is ∙ ap (all_lowered_to told.left.items) aged_is)
    (items_is ∙ ap (λ (xs : List Item). xs ++ items_from count moment told.notes.items) waiting_is ∙ ap (λ (k : ℕ). still_waiting moment e.items ++ items_from k moment told.notes.items) count_is)
    (numbered_is ∙ ap (λ (k : ℕ). numbered_after k told.notes.items) count_is)
