-- What is told: the soundness that it leaves, and that nothing is told where nothing changed.
use Rattle.std.proofs.Common.{◌≡◌, ℕ, ◌≤◌, List, [], ◌∷◌, ◌++◌, map, true, false, refl, ap, ◌∙◌, arith}
use Rattle.std.proofs.lemmas.List.{append-nil}
use Rattle.std.specs.List.{list_any}
use Rattle.primitive_json.specs.declared.note.NoteParts.{NoteParts}
use Rattle.notify_outbox.specs.declared.item.Item.{Item}
use Rattle.resource_model.specs.Home.{HomeData}
use Rattle.resource_model.specs.Resource.{ResourceData}
use Rattle.subscription_match.specs.Items.{items_of}
use Rattle.subscription_match.specs.Notices.{notes_of_all}
use Rattle.subscription_match.specs.Spending.{is_spent, kept, lowered, nodes_spent}
use Rattle.subscription_match.specs.declared.drafts.DraftParts.{DraftParts}
use Rattle.tree_model.specs.Changes.{ChangeData}
use Rattle.tree_model.specs.Tree.{is_tree, overdue_numbers}
use Rattle.tree_model.proofs.GrowthLemmas.{tree_from_well_formed}
use Rattle.tree_model.proofs.LiveLemmas.{without_none}
use Rattle.tree_model.proofs.OverdueLemmas.{all_live}
use Rattle.announce_copy.specs.Copies.{copies_of_all}
use Rattle.announce_copy.specs.Items.{copy_notes}
use Rattle.entity_model.specs.Entity.{EntityData, copy_requests, cut, event_moment, expired, swept, telling, with_notes, with_told}
use Rattle.entity_model.specs.Expiry.{expiry_changes}
use Rattle.entity_model.specs.Sound.{IsSoundEntity}
use Rattle.entity_model.proofs.SpentLemmas.{sound_spent}
use Rattle.entity_model.proofs.SoundLemmas.{expired_still, moment_small, sound_expired, sound_items}
use Rattle.entity_model.proofs.WaitingLemmas.{order_noted, waiting_noted}

-- ---- soundness

-- notes that are appended leave an entity sound
pub sound_notes : (notes : List NoteParts) (e : EntityData) → IsSoundEntity e → IsSoundEntity (with_notes notes e)
sound_notes notes e sound =
    sound_items e _ _ sound
    (waiting_noted notes e.numbered e.last e.items sound.waiting)
    (order_noted notes e.numbered e.last e.items sound.moments sound.waiting)

pub sound_told : (before : List ResourceData) (drafts : List DraftParts) (requests : List NoteParts) (e : EntityData) → IsSoundEntity e → IsSoundEntity (with_told before drafts requests e)
sound_told before drafts requests e sound = sound_notes (items_of e.home before (kept before drafts) ++ requests) _ (sound_spent drafts e sound)

pub sound_telling : (before : List ResourceData) (going : List ℕ) (changes : List ChangeData) (e : EntityData) → IsSoundEntity e → IsSoundEntity (telling before going changes e)
sound_telling before going changes e sound =
    sound_told before (notes_of_all e.home before going changes) (copy_requests e.home before changes) e sound

pub sound_swept : (reading : ℕ) (e : EntityData) → IsSoundEntity e → IsSoundEntity (swept reading e)
sound_swept reading e sound =
    let later : e.last ≤ event_moment e.last reading = omega arith in
    let moment : ℕ = event_moment e.last reading in
    sound_telling e.nodes (overdue_numbers moment e.nodes) (expiry_changes moment e.nodes) (expired moment e)
    (sound_expired moment e later (moment_small e.last reading sound.last) sound)

-- ---- nothing is told

-- where no copy is made or changed, nothing is asked for
pub none_requested : (home : HomeData) (nodes : List ResourceData) (changes : List ChangeData) → copies_of_all home nodes changes ≡ [] → copy_requests home nodes changes ≡ []
unfolding copy_requests
none_requested home nodes changes none = ap (copy_notes home nodes) none

pub no_requests : (home : HomeData) (nodes : List ResourceData) → copy_requests home nodes [] ≡ []
no_requests home nodes = none_requested home nodes [] refl

none_spent : (nodes : List ResourceData) → list_any (is_spent []) nodes ≡ false
none_spent [] = refl
none_spent (r ∷ nodes) = none_spent nodes

all_kept : (nodes : List ResourceData) → map (lowered []) nodes ≡ nodes
all_kept [] = refl
all_kept (r ∷ nodes) = ap (λ (rs : List ResourceData). r ∷ rs) (all_kept nodes)

pub nothing_spent : (nodes : List ResourceData) → is_tree nodes ≡ true → nodes_spent [] nodes ≡ nodes
nothing_spent nodes tree = ap (map (lowered [])) (without_none (is_spent []) nodes tree (none_spent nodes)) ∙ all_kept nodes

-- where nothing changed, the entity stays
pub nothing_told : (before : List ResourceData) (e : EntityData) → IsSoundEntity e → telling before [] [] e ≡ e
nothing_told before e sound =
    ap (λ (requests : List NoteParts). with_told before [] requests e) (no_requests e.home before)
    ∙ ap (λ (nodes : List ResourceData). record e { nodes = nodes; items = e.items ++ [] }) (nothing_spent e.nodes (tree_from_well_formed e.nodes sound.tree))
    ∙ ap (λ (items : List Item). record e { items = items }) (append-nil e.items)

pub swept_still : (reading : ℕ) (e : EntityData) → IsSoundEntity e → cut reading ≤ e.last → swept reading e ≡ e
swept_still reading e sound early =
    let moment : ℕ = event_moment e.last reading in
    let whole : expired moment e ≡ e = expired_still reading e sound early in
    let none : overdue_numbers moment e.nodes ≡ [] = all_live e.nodes moment (tree_from_well_formed e.nodes sound.tree) (ap (λ (x : EntityData). x.nodes) whole) in
    let changes : expiry_changes moment e.nodes ≡ [] = rw none refl in
    ap (λ (gone : List ℕ). telling e.nodes gone (expiry_changes moment e.nodes) (expired moment e)) none
    ∙ ap (λ (cs : List ChangeData). telling e.nodes [] cs (expired moment e)) changes
    ∙ ap (telling e.nodes [] []) whole
    ∙ nothing_told e.nodes e sound
