-- What a test of each element of a list says of its first and of the rest.
use Rattle.binding_laws.proofs.Words.{◌≡◌, Bool, true, List, ◌∷◌, list_all}
use Rattle.binding_laws.proofs.Facts.{and_parts}

-- the first passes, and each of the rest does
pub record EachPasses {X : Type 0} (p : X → Bool) (x : X) (xs : List X) : Type 0 where
  pub first : p x ≡ true
  pub rest : list_all p xs ≡ true

pub each_parts : {X : Type 0} (p : X → Bool) (x : X) (xs : List X) → list_all p (x ∷ xs) ≡ true → EachPasses p x xs
each_parts p x xs all =
    let parts = and_parts (p x) (list_all p xs) all in
    record { first = parts.0; rest = parts.1 }
