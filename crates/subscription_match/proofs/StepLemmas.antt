-- How many steps it takes to find who is told of a change.
use Rattle.std.specs.Prelude.{filter}
use Rattle.std.proofs.Common.{◌≡◌, ℕ, ◌+◌, ◌≤◌, List, [], ◌∷◌, length, Bool, true, false, ◌||◌, Option, Some, None, refl, ap, inl, inr, arith}
use Rattle.std.proofs.lemmas.Bool.{cases_Bool, both_ways}
use Rattle.resource_model.specs.Resource.{ResourceData}
use Rattle.tree_model.specs.Changes.{ChangeData, created, updated, deleted}
use Rattle.subscription_match.specs.Matching.{heard_above, is_deaf, is_sub_of, is_sub_of_either, own_of, steps_of, watching}

-- of those that pass a wider test there are no fewer
fewer : (p q : ResourceData → Bool) → ((r : ResourceData) → p r ≡ true → q r ≡ true) → (rs : List ResourceData) → length (filter p rs) ≤ length (filter q rs)
fewer p q wider [] = omega arith
fewer p q wider (r ∷ rs) =
    let rest = fewer p q wider rs in
    elim (cases_Bool (p r)) [
      | inl t ↦ rw (t, wider r t) (omega (arith, rest))
      | inr f ↦ elim (cases_Bool (q r)) [
        | inl t ↦ rw (f, t) (omega (arith, rest))
        | inr g ↦ rw (f, g) rest
      ]
    ]

or_none : (a b : Bool) → (a || false) ≡ true → (a || b) ≡ true
or_none true b t = refl
or_none false b t = absurd (both_ways _ refl t)

-- those that are gone over are among those under both
pub heard_fewer : (nodes : List ResourceData) (rows : List (ℕ × Bool)) (change : ChangeData) → length (filter (is_sub_of_either (own_of change) (heard_above rows change)) nodes) ≤ length (watching nodes change)
heard_fewer nodes rows (created new) = omega arith
heard_fewer nodes rows (updated before after named) = omega arith
heard_fewer nodes rows (deleted gone) = elim (cases_Bool (is_deaf rows gone.parent)) [
  | inl t ↦
      rw t (fewer (is_sub_of_either (Some gone.number) None) (is_sub_of_either (Some gone.number) (Some gone.parent))
      (λ r u. or_none (is_sub_of (Some gone.number) r) (is_sub_of (Some gone.parent) r) u) nodes)
  | inr f ↦ rw f (omega arith)
]

-- telling costs no more than is allowed for a change
pub cost_of_telling : (nodes : List ResourceData) (rows : List (ℕ × Bool)) (change : ChangeData) (above : Option ℕ) (before now : ℕ) → above ≡ heard_above rows change → now ≤ before + length (filter (is_sub_of_either (own_of change) above) nodes) + 2 → now ≤ before + steps_of nodes change
cost_of_telling nodes rows change above before now is cost =
    let same : length (filter (is_sub_of_either (own_of change) above) nodes) ≡ length (filter (is_sub_of_either (own_of change) (heard_above rows change)) nodes) =
    ap (λ (o : Option ℕ). length (filter (is_sub_of_either (own_of change) o) nodes)) is in
    omega (arith, cost, same, heard_fewer nodes rows change)
