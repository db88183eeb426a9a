-- The first of a list that grows.
use Rattle.std.proofs.Common.{◌≡◌, ℕ, zero, suc, ◌≤◌, List, [], ◌∷◌, ◌++◌, length, take, refl, ap, arith}
use Rattle.std.proofs.lemmas.List.{length-take}

-- what was cut already may be cut again
pub take-onto : {A : Type 0} (n : ℕ) (xs ys : List A) → take n (take n xs ++ ys) ≡ take n (xs ++ ys)
take-onto zero xs ys = refl
take-onto (suc n) [] ys = refl
take-onto (suc n) (x ∷ xs) ys = ap (λ rest. x ∷ rest) (take-onto n xs ys)

pub take-short : {A : Type 0} (n : ℕ) (xs : List A) → length (take n xs) ≤ n
take-short n xs = let is = length-take n xs in omega (arith, is)
