use Rattle.std.proofs.Common.{◌≡◌, ◌+◌, ◌<◌, ◌++◌, ◌∷◌, [], ℕ, codes, ap, sym, ◌∙◌, arith}
use Rattle.std.proofs.lemmas.Fmt.{decimal_digit}
use Rattle.made_input.specs.Requests.{address_of, newest_of}
use Rattle.made_input.proofs.requests.addresses_of.Goals as goal

-- the address of the container of this number, which has one digit
container_at : (n : ℕ) {number : ℕ} → n < 10 → number ≡ n → codes "cnt" ++ (48 + n) ∷ [] ≡ address_of number
container_at n few is = ap (λ v. codes "cnt" ++ v) (sym (decimal_digit n few)) ∙ sym (ap address_of is)

-- and that of the newest instance in it
newest_at : (n : ℕ) {number : ℕ} → n < 10 → number ≡ n → (codes "cnt" ++ (48 + n) ∷ []) ++ codes "/la" ≡ newest_of number
newest_at n few is = ap (λ v. v ++ codes "/la") (container_at n few is)

pub returns-then-number-eq4-clause-container : goal.returns-then-number-eq4-clause-container
returns-then-number-eq4-clause-container c =
    let is : c.args.number ≡ 4 = omega arith in container_at 4 (omega arith) is

pub returns-then-number-eq4-clause-newest : goal.returns-then-number-eq4-clause-newest
returns-then-number-eq4-clause-newest c =
    let is : c.args.number ≡ 4 = omega arith in newest_at 4 (omega arith) is

pub returns-then-number-eq5-clause-container : goal.returns-then-number-eq5-clause-container
returns-then-number-eq5-clause-container c =
    let is : c.args.number ≡ 5 = omega arith in container_at 5 (omega arith) is

pub returns-then-number-eq5-clause-newest : goal.returns-then-number-eq5-clause-newest
returns-then-number-eq5-clause-newest c =
    let is : c.args.number ≡ 5 = omega arith in newest_at 5 (omega arith) is

pub returns-then-number-eq6-clause-container : goal.returns-then-number-eq6-clause-container
returns-then-number-eq6-clause-container c =
    let is : c.args.number ≡ 6 = omega arith in container_at 6 (omega arith) is

pub returns-then-number-eq6-clause-newest : goal.returns-then-number-eq6-clause-newest
returns-then-number-eq6-clause-newest c =
    let is : c.args.number ≡ 6 = omega arith in newest_at 6 (omega arith) is

pub returns-else-number-eq6-clause-container : goal.returns-else-number-eq6-clause-container
returns-else-number-eq6-clause-container c =
    let is : c.args.number ≡ 7 = omega arith in container_at 7 (omega arith) is

pub returns-else-number-eq6-clause-newest : goal.returns-else-number-eq6-clause-newest
returns-else-number-eq6-clause-newest c =
    let is : c.args.number ≡ 7 = omega arith in newest_at 7 (omega arith) is
