-- What a name leads to, from a resource on.
use Rattle.machine_laws.proofs.Words.{◌≡◌, ℕ, ◌+◌, List, ◌∷◌, true, Some, inl, inr, refl, option_and_then}
use Rattle.machine_laws.proofs.Terms.{Group, ResourceData, is_at, is_fan, is_poll, next_named, poll_point, spot_from, Fan}
use Rattle.machine_laws.proofs.Facts.{and_parts, cases_Bool}
use Rattle.machine_laws.specs.Sight.{is_poll_segment}

-- to the fan-out point of a group; by `pcu` to a poll point; or to what is read on from
pub data LeadsTo (place n : ℕ) (name : List ℕ) (names : List (List ℕ)) (nodes : List ResourceData) : Type 0 where
  a_fan_point : is_at Group n nodes ≡ true → spot_from place n (name ∷ names) nodes ≡ Some (Fan n (place + 1)) → LeadsTo place n name names nodes
  a_poll_point : is_poll_segment name ≡ true → spot_from place n (name ∷ names) nodes ≡ poll_point n names → LeadsTo place n name names nodes
  a_resource : spot_from place n (name ∷ names) nodes ≡ option_and_then (λ (m : ℕ). spot_from (place + 1) m names nodes) (next_named n name nodes) → LeadsTo place n name names nodes

pub leads_to : (place n : ℕ) (name : List ℕ) (names : List (List ℕ)) (nodes : List ResourceData) → LeadsTo place n name names nodes
leads_to place n name names nodes = elim (cases_Bool (is_fan n name nodes)) [
  | inl t ↦ a_fan_point (and_parts _ (is_at Group n nodes) t).1 (rw t refl)
  | inr f ↦ elim (cases_Bool (is_poll n name nodes)) [
    | inl t ↦ a_poll_point (and_parts (is_poll_segment name) _ t).0 (rw (f, t) refl)
    | inr g ↦ a_resource (rw (f, g) refl)
  ]
]
