-- What stands between two places, and what a read puts behind them.
use Rattle.std.proofs.Common.{◌≡◌, ℕ, ◌+◌, ◌-◌, ◌≤◌, List, ◌++◌, length, take, drop, sym, ap, ◌∙◌, arith, append_assoc, length-append, length-drop}
use Rattle.std.specs.List.{copy_within}
use Rattle.std.proofs.lemmas.List.{take_at, take-append-drop, drop-take, take-take, length-take-le}

-- what stands from one place to another, counted from the first
pub moved : (xs : List ℕ) (start end : ℕ) → start ≤ end → take (end - start) (drop start xs) ≡ drop start (take end xs)
moved xs start end within =
    let whole : end ≡ start + (end - start) = omega (arith, within) in
    sym (ap (λ n. drop start (take n xs)) whole ∙ drop-take start (end - start) xs)

-- what stands from one place to another, moved to the front
pub front_moved : (xs : List ℕ) (start end : ℕ) → start ≤ end → end ≤ length xs
    → take (end - start) (copy_within xs start end 0) ≡ drop start (take end xs)
front_moved xs start end ordered within =
    let long : end - start ≤ length (drop start xs) = omega (arith, within, length-drop start xs) in
    take_at (take (end - start) (drop start xs)) (drop (0 + (end - start)) xs) (end - start) (length-take-le (end - start) (drop start xs) long)
    ∙ moved xs start end ordered

-- what is cut off behind changes nothing of the front
pub front_cut : (xs : List ℕ) (n most : ℕ) → n ≤ most → take n (take most xs) ≡ take n xs
front_cut xs n most within = take-take n most xs within

-- what is put behind changes nothing of the front
pub front_kept : (xs ys : List ℕ) (n : ℕ) → n ≤ length xs → take n (xs ++ ys) ≡ take n xs
front_kept xs ys n within =
    let all : xs ++ ys ≡ take n xs ++ (drop n xs ++ ys) = ap (λ t. t ++ ys) (sym (take-append-drop n xs)) ∙ append_assoc (take n xs) (drop n xs) ys in
    ap (take n) all ∙ take_at (take n xs) (drop n xs ++ ys) n (length-take-le n xs within)

-- the front and the first bytes that were written right behind it
pub landed : (old buf rest : List ℕ) (end n : ℕ) → end ≤ length old → n ≤ length buf
    → take (end + n) (take end old ++ (buf ++ rest)) ≡ take end old ++ take n buf
landed old buf rest end n within short =
    let parts : buf ++ rest ≡ take n buf ++ (drop n buf ++ rest) =
    ap (λ t. t ++ rest) (sym (take-append-drop n buf)) ∙ append_assoc (take n buf) (drop n buf) rest in
    let all : take end old ++ (buf ++ rest) ≡ (take end old ++ take n buf) ++ (drop n buf ++ rest) =
    ap (λ t. take end old ++ t) parts ∙ sym (append_assoc (take end old) (take n buf) (drop n buf ++ rest)) in
    let count : length (take end old ++ take n buf) ≡ end + n =
    omega (arith, length-append (take end old) (take n buf), length-take-le end old within, length-take-le n buf short) in
    ap (take (end + n)) all ∙ take_at (take end old ++ take n buf) (drop n buf ++ rest) (end + n) count
