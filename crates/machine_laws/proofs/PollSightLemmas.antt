-- Which addresses lead to a poll point.
use Rattle.machine_laws.proofs.Words.{◌≡◌, ℕ, ◌+◌, List, [], ◌∷◌, Bool, true, false, ◌&&◌, Option, Some, None, option_map, refl, sym, ◌∙◌, list_any, option_and_then}
use Rattle.machine_laws.proofs.Terms.{ResourceData, base_of, first_named, next_named, spot_from, spot_of, Resource, Fan, Poll}
use Rattle.machine_laws.proofs.Facts.{both_ways, or_left, or_right}
use Rattle.machine_laws.specs.Sight.{is_poll_segment}
use Rattle.machine_laws.proofs.SpotLemmas.{a_fan_point, a_poll_point, a_resource, leads_to}

-- where both don't hold, and the second does, the first doesn't
pub first_false : (a b : Bool) → (a && b) ≡ false → b ≡ true → a ≡ false
first_false true b other is = absurd (both_ways b other is)
first_false false b other is = refl

-- no other spot is one
fan_poll : (group rest c : ℕ) → Some (Fan group rest) ≡ Some (Poll c) → ⊥
fan_poll group rest c same = cc

resource_poll : (n c : ℕ) → Some (Resource n) ≡ Some (Poll c) → ⊥
resource_poll n c same = cc

from_named : (place n : ℕ) (names : List (List ℕ)) (nodes : List ResourceData) (c : ℕ) → spot_from place n names nodes ≡ Some (Poll c) → list_any is_poll_segment names ≡ true
from_named place n [] nodes c is = absurd (resource_poll n c is)
from_named place n (name ∷ names) nodes c is = elim (leads_to place n name names nodes) [
  | a_fan_point group here ↦ absurd (fan_poll n (place + 1) c (sym here ∙ is))
  | a_poll_point named here ↦ or_left _ _ named
  | a_resource here ↦ or_right _ _ (by (next_named n name nodes) (λ m. from_named (place + 1) m names nodes c) (sym here ∙ is))
]
  where
    by : (next : Option ℕ) → ((m : ℕ) → spot_from (place + 1) m names nodes ≡ Some (Poll c) → list_any is_poll_segment names ≡ true) → option_and_then (λ (m : ℕ). spot_from (place + 1) m names nodes) next ≡ Some (Poll c) → list_any is_poll_segment names ≡ true
    by None rest none = cc
    by (Some m) rest found = rest m found

pub poll_named : (segments : List (List ℕ)) (nodes : List ResourceData) (c : ℕ) → spot_of segments nodes ≡ Some (Poll c) → list_any is_poll_segment segments ≡ true
poll_named [] nodes c is = by_base (base_of nodes) is
  where
    by_base : (base : Option ℕ) → option_map (λ (n : ℕ). Resource n) base ≡ Some (Poll c) → false ≡ true
    by_base None none = cc
    by_base (Some n) some = absurd (resource_poll n c some)
poll_named (segment ∷ names) nodes c is = or_right _ _ (by_first (first_named segment nodes) is)
  where
    by_first : (first : Option ℕ) → option_and_then (λ (n : ℕ). spot_from 1 n names nodes) first ≡ Some (Poll c) → list_any is_poll_segment names ≡ true
    by_first None none = cc
    by_first (Some n) found = from_named 1 n names nodes c found
