-- What is done is told behind it.
use Rattle.change_laws.proofs.Words.{◌≡◌, ℕ, List, [], Option, Some, None, refl, sym, ap, ◌∙◌, option_map_or}
use Rattle.change_laws.proofs.Terms.{Rsc, Op, RequestParts, EntityData, telling, Effect, IsSoundEntity, fault_at, changes_at, changes_by, effect_at}
use Rattle.change_laws.proofs.Facts.{found_at, refused_at, told_after, told_refused_at, told_reply}
use Rattle.tree_model.specs.Changes.{ChangeData}
use Rattle.entity_model.proofs.TellingLemmas.{nothing_told}
use Rattle.create_delete.specs.Telling.{gone_numbers, told_effect_at}

pub reply_behind : (op : Op) (e : EntityData) (o : List ℕ) (request : RequestParts) (n : ℕ) → (told_effect_at op e o request n).reply ≡ (effect_at op e o request n).reply
reply_behind op e o request n = by_fault (fault_at op e o request n) refl
  where
    by_fault : (x : Option Rsc) → fault_at op e o request n ≡ x → (told_effect_at op e o request n).reply ≡ (effect_at op e o request n).reply
    by_fault (Some f) is = ap (λ (x : Effect). x.reply) (told_refused_at op e o request n f is ∙ sym (refused_at op e o request n f is))
    by_fault None none =
        let found = found_at op e o request n none in
        told_reply op e o request n found.0 found.1 none

module _ (op : Op) (e : EntityData) (o : List ℕ) (request : RequestParts) (n : ℕ) (sound : IsSoundEntity e) where
  abbrev after : EntityData
  after = (effect_at op e o request n).after

  -- the changes, by the status of a refusal
  abbrev made : Option Rsc → List ChangeData
  made x = option_map_or (λ fault. []) x (changes_by op request n e after)

  refused_is : (f : Rsc) → fault_at op e o request n ≡ Some f → after ≡ e
  refused_is f is = ap (λ (x : Effect). x.after) (refused_at op e o request n f is)

  by_fault : (x : Option Rsc) → fault_at op e o request n ≡ x → (told_effect_at op e o request n).after ≡ telling e.nodes (gone_numbers e after) (changes_at op e o request n) after
  by_fault (Some f) is =
      ap (λ (x : Effect). x.after) (told_refused_at op e o request n f is)
      ∙ sym (ap (λ (y : Option Rsc). telling e.nodes (gone_numbers e after) (made y) after) is
      ∙ ap (λ (a : EntityData). telling e.nodes (gone_numbers e after) [] a) (refused_is f is)
      ∙ nothing_told e.nodes e sound)
  by_fault None none =
      let found = found_at op e o request n none in
      told_after op e o request n found.0 after found.1 none refl
      ∙ sym (ap (λ (y : Option Rsc). telling e.nodes (gone_numbers e after) (made y) after) none)

pub told_behind : (op : Op) (e : EntityData) (o : List ℕ) (request : RequestParts) (n : ℕ) → IsSoundEntity e → (told_effect_at op e o request n).after ≡ telling e.nodes (gone_numbers e (effect_at op e o request n).after) (changes_at op e o request n) (effect_at op e o request n).after
told_behind op e o request n sound = by_fault op e o request n sound (fault_at op e o request n) refl
