-- A parent that has none is forgotten.
use Rattle.std.specs.Prelude.{nat_eq}
use Rattle.std.proofs.Common.{◌≡◌, ℕ, List, [], ◌∷◌, length, arith, cond, Option, None, inl, inr, refl, ap, ◌∙◌}
use Rattle.std.proofs.lemmas.Bool.{cases_Bool, eqb-true}
use Rattle.std.specs.HashMap.{HashMap, get}
use Rattle.std.specs.Option.{option_map_or}
use Rattle.resource_tree.specs.Queue.{queue_at}

no_numbers : (numbers : List ℕ) → length numbers ≡ 0 → [] ≡ numbers
no_numbers [] none = refl
no_numbers (n ∷ numbers) some = absurd (omega arith)

pub forgotten : {S : Type 0} (m n : HashMap ℕ (List ℕ) S) (parent : ℕ) → length (queue_at m parent) ≡ 0 → ((q : ℕ) → get nat_eq n q ≡ cond (nat_eq parent q) None (get nat_eq m q)) → (p : ℕ) → queue_at n p ≡ queue_at m p
forgotten m n parent none updates p = elim (cases_Bool (nat_eq parent p)) [
  | inl t ↦
      ap (λ (o : Option (List ℕ)). option_map_or (λ (ns : List ℕ). ns) o []) (updates p ∙ ap (λ b. cond b None (get nat_eq m p)) t)
      ∙ no_numbers (queue_at m parent) none
      ∙ ap (queue_at m) (eqb-true parent p t)
  | inr f ↦ ap (λ (o : Option (List ℕ)). option_map_or (λ (ns : List ℕ). ns) o []) (updates p ∙ ap (λ b. cond b None (get nat_eq m p)) f)
]
