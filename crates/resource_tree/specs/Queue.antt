-- Numbers in ascending order, and the queue of each parent.
use Rattle.std.specs.Prelude.{◌==◌, ℕ, nat_eq, List, [], not, filter}
use Rattle.std.specs.HashMap.{HashMap, get}
use Rattle.std.specs.Option.{option_map_or}

-- without a number
abbrev pub without_number : ℕ → List ℕ → List ℕ
without_number n numbers = filter (λ m. not (m == n)) numbers

-- the numbers that a parent has
abbrev pub queue_at : {S : Type 0} → HashMap ℕ (List ℕ) S → ℕ → List ℕ
queue_at m parent = option_map_or (λ numbers. numbers) (get nat_eq m parent) []
