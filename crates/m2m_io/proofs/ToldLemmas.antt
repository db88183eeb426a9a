-- Writes one behind the other, where the last of them may have been cut short.
use Rattle.std.proofs.Common.{◌≡◌, ℕ, ◌+◌, ◌≤◌, List, ◌++◌, length, take, Option, None, Some, arith, append_assoc, length-append, ap, ◌∙◌}
use Rattle.std.proofs.lemmas.List.{take-append-le}
use Rattle.std.proofs.Math.Seq.{take-append-add}
use Rattle.std.specs.Io.KnownBytes.{Appends}
use Rattle.m2m_io.specs.Told.{AppendsPrefix}

-- a prefix of the first text is a prefix of both
pub prefix_front : (old new : Option (List ℕ)) (a b : List ℕ)
    → AppendsPrefix old new a → AppendsPrefix old new (a ++ b)
prefix_front old new a b p =
    let short : p.0 ≤ length (a ++ b) = rw length-append (omega (arith, p.1)) in
    let same : take p.0 (a ++ b) ≡ take p.0 a = take-append-le p.0 a b p.1 in
    (p.0, short, rw same p.2)

-- the first text, and then a prefix of the second
pub prefix_behind : (old mid new : Option (List ℕ)) (a b : List ℕ)
    → Appends old mid a → AppendsPrefix mid new b → AppendsPrefix old new (a ++ b)
prefix_behind None mid new a b whole p = (0, omega arith, tt)
prefix_behind (Some xs) None new a b whole p = absurd whole
prefix_behind (Some xs) (Some ys) None a b whole p = absurd p.2
prefix_behind (Some xs) (Some ys) (Some zs) a b whole p =
    let short : length a + p.0 ≤ length (a ++ b) = rw length-append (omega (arith, p.1)) in
    let same : take (length a + p.0) (a ++ b) ≡ a ++ take p.0 b = take-append-add a b p.0 in
    (length a + p.0, short, rw same (p.2 ∙ ap (λ v. v ++ take p.0 b) whole ∙ append_assoc xs a (take p.0 b)))

-- a prefix of one text behind another
pub ruleset prefixes = (prefix_front, prefix_behind)
