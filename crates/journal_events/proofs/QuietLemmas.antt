-- An expiry that takes nothing changes nothing but the moment.
use Rattle.std.proofs.Common.{◌≡◌, inl, inr, ℕ, ◌≤◌, suc, List, [], ◌∷◌, ◌++◌, length, map, filter, Bool, true, false, refl, sym, ◌∙◌, ap, arith}
use Rattle.std.proofs.lemmas.List.{length-map}
use Rattle.std.proofs.lemmas.Bool.{cases_Bool}
use Rattle.resource_model.specs.Resource.{ResourceData}
use Rattle.tree_model.specs.Tree.{is_due, is_tree, live, overdue_numbers, staying, stays, without}
use Rattle.tree_model.proofs.OverdueLemmas.{all_live}
use Rattle.tree_model.proofs.GrowthLemmas.{tree_from_well_formed}
use Rattle.notify_outbox.specs.declared.item.Item.{Item}
use Rattle.subscription_match.specs.Notices.{notes_of_all}
use Rattle.subscription_match.specs.Spending.{is_spent, lowered, nodes_spent}
use Rattle.subscription_match.specs.declared.drafts.DraftParts.{DraftParts}
use Rattle.entity_model.specs.Entity.{EntityData, cut, event_moment, expired, expired_told, still_waiting, swept}
use Rattle.entity_model.specs.Expiry.{expiry_changes}
use Rattle.entity_model.specs.Sound.{IsSoundEntity}
use Rattle.entity_model.proofs.RemovalLemmas.{staying_length}
use Rattle.entity_model.proofs.SoundLemmas.{moment_small, sound_expired}
use Rattle.entity_model.proofs.SweepingLemmas.{none_told}
use Rattle.journal_events.specs.Kept.{ChangesTheMomentAlone, at_moment}

-- as many as there were are all of them
all_stay : (p : ResourceData → Bool) (stayed nodes : List ResourceData) → length nodes ≤ length (staying p stayed nodes) → staying p stayed nodes ≡ nodes
all_stay p stayed [] many = refl
all_stay p stayed (r ∷ nodes) many = elim (cases_Bool (stays p stayed r)) [
  | inl t ↦ rw t (ap (λ rest. r ∷ rest) (all_stay p (stayed ++ r ∷ []) nodes (kept t)))
  | inr f ↦ absurd (fewer f)
]
  where
    kept : stays p stayed r ≡ true → length nodes ≤ length (staying p (stayed ++ r ∷ []) nodes)
    kept t = let is : length (staying p stayed (r ∷ nodes)) ≡ suc (length (staying p (stayed ++ r ∷ []) nodes)) = rw t refl in omega (arith, many, is)

    fewer : stays p stayed r ≡ false → ⊥
    fewer f =
        let is : length (staying p stayed (r ∷ nodes)) ≡ length (staying p stayed nodes) = rw f refl in
        omega (arith, many, is, staying_length p stayed nodes)

filter_length : {X : Type 0} (p : X → Bool) (xs : List X) → length (filter p xs) ≤ length xs
filter_length p [] = omega arith
filter_length p (x ∷ xs) = elim (cases_Bool (p x)) [
  | inl t ↦ rw t (omega (arith, filter_length p xs))
  | inr f ↦ rw f (omega (arith, filter_length p xs))
]

all_pass : {X : Type 0} (p : X → Bool) (xs : List X) → length xs ≤ length (filter p xs) → filter p xs ≡ xs
all_pass p [] many = refl
all_pass p (x ∷ xs) many = elim (cases_Bool (p x)) [
  | inl t ↦ rw t (ap (λ rest. x ∷ rest) (all_pass p xs (kept t)))
  | inr f ↦ absurd (fewer f)
]
  where
    kept : p x ≡ true → length xs ≤ length (filter p xs)
    kept t = let is : length (filter p (x ∷ xs)) ≡ suc (length (filter p xs)) = rw t refl in omega (arith, many, is)

    fewer : p x ≡ false → ⊥
    fewer f =
        let is : length (filter p (x ∷ xs)) ≡ length (filter p xs) = rw f refl in
        omega (arith, many, is, filter_length p xs)

module _ (moment : ℕ) (e : EntityData) (sound : IsSoundEntity e) where
  abbrev left : EntityData
  left = expired_told moment e

  few : length left.nodes ≤ length (live moment e.nodes)
  few =
      let drafts = notes_of_all e.home e.nodes (overdue_numbers moment e.nodes) (expiry_changes moment e.nodes) in
      omega (arith, length-map (without (is_spent drafts) (live moment e.nodes)) (lowered drafts), staying_length (is_spent drafts) [] (live moment e.nodes))

  module _ (later : e.last ≤ moment) (most : moment ≤ 253402300798) (nodes : length left.nodes ≡ length e.nodes) (items : length left.items ≡ length e.items) where
    all_there : live moment e.nodes ≡ e.nodes
    all_there = all_stay (is_due e.nodes moment) [] e.nodes (omega (arith, few, nodes))

    untold : left ≡ expired moment e
    untold = none_told moment e (sound_expired moment e later most sound)
        (all_live e.nodes moment (tree_from_well_formed e.nodes sound.tree) all_there)

    all_wait : still_waiting moment e.items ≡ e.items
    all_wait = all_pass _ e.items (omega (arith, items, ap (λ (x : EntityData). length x.items) untold))

    pub quiet_sweep : left ≡ at_moment moment e
    quiet_sweep =
        untold ∙ ap (λ ns. record e { nodes = ns; last = moment; items = still_waiting moment e.items }) all_there
        ∙ ap (λ is. record e { last = moment; items = is }) all_wait

pub quiet : (reading : ℕ) (e : EntityData) → IsSoundEntity e → length (swept reading e).nodes ≡ length e.nodes
    → length (swept reading e).items ≡ length e.items → ChangesTheMomentAlone e (swept reading e)
quiet reading e sound nodes items =
    let m = event_moment e.last reading in
    let later : e.last ≤ m = omega arith in
    let is = quiet_sweep m e sound later (moment_small e.last reading sound.last) nodes items in
    record { same = is ∙ ap (λ n. at_moment n e) (sym (ap (λ (x : EntityData). x.last) is)); later = omega (arith, later, ap (λ (x : EntityData). x.last) is) }
