use Rattle.std.proofs.Common.{◌≡◌, ℕ, ◌||◌, ◌==◌, drop}
use Rattle.std.specs.BTreeSet.{contains_by}
use Rattle.std.specs.List.{list_any}
use Rattle.std.specs.Ordering.{nat_cmp}
use Rattle.retrieve_discover.proofs.asked.number_set.Given as goal

-- the numbers in the set and those that are left are all
abbrev pub invariant-loop-number : goal.invariant-loop-number
invariant-loop-number l =
    (n : ℕ) → (contains_by (nat_cmp n) l.set || list_any (λ m. m == n) (drop l.number-index l.numbers)) ≡ list_any (λ m. m == n) l.numbers
