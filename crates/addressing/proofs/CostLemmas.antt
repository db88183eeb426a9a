-- What it costs to follow segments.
use Rattle.std.proofs.Common.{◌≡◌, ℕ, ◌+◌, ◌*◌, ◌≤◌, List, ◌∷◌, length, map, Bor, sym, ap, ◌∙◌, subst, arith}
use Rattle.std.proofs.lemmas.List.{length-map}
use Rattle.std.proofs.Math.Nat.{mul-le-mul_left}

-- up to a place it costs no more than to the end
pub cost_so_far : (before now each place : ℕ) (names : List (Bor (List ℕ))) → place ≤ length names → now ≤ before + each * place → now ≤ before + each * length names
cost_so_far before now each place names within cost = omega (arith, cost, mul-le-mul_left each within)

-- the first segment, and no more
pub cost_of_first : (before now each : ℕ) (name : Bor (List ℕ)) (names : List (Bor (List ℕ))) → now ≤ before + each → now ≤ before + each * length (name ∷ names)
cost_of_first before now each name names cost =
    let one : 1 ≤ length (name ∷ names) = omega arith in
    omega (arith, cost, mul-le-mul_left each one)

-- the first segment, and those behind it
pub cost_of_all : (before first now each : ℕ) (name : Bor (List ℕ)) (names : List (Bor (List ℕ))) → first ≤ before + each → now ≤ first + each * length names → now ≤ before + each * length (name ∷ names)
cost_of_all before first now each name names one rest =
    let more : 1 + length names ≤ length (name ∷ names) = omega arith in
    omega (arith, one, rest, mul-le-mul_left each more)

-- the parts of segments are as many as these
pub cost_of_parts : (before now each : ℕ) (parts : List (Bor (List ℕ))) (names : List (List ℕ)) → map (λ p. p.now) parts ≡ names → now ≤ before + each * length parts → now ≤ before + each * length names
cost_of_parts before now each parts names is cost =
    subst (λ (n : ℕ). now ≤ before + each * n) (sym (length-map parts (λ (p : Bor (List ℕ)). p.now)) ∙ ap length is) cost

-- what looking for a name costs
pub ruleset costs_of_looking = (cost_of_first, cost_of_all)
