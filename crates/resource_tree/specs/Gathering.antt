-- The numbers of what is overdue, gathered from what is due down to all that stands below it.
use Rattle.std.specs.Prelude.{◌≡◌, ◌⊎◌, ◌≤◌, ℕ, nat_eq, List, true}
use Rattle.std.specs.List.{list_any}
use Rattle.resource_model.specs.Resource.{ResourceData, has_number}
use Rattle.tree_model.specs.Tree.{line_of}
use Rattle.resource_dues.specs.Dues.{is_listed}
use Rattle.resource_store.specs.Overdue.{is_first_at, is_overdue}

-- The second list has the numbers of the first, and others of what is overdue: that of the resource
-- and of all that stands below it, where it is the first in its line that is.
pub record GathersFirst (moment n : ℕ) (nodes : List ResourceData) (old new : List ℕ)
    : Type 0 where
  pub keeps : (m : ℕ) → list_any (nat_eq m) old ≡ true → list_any (nat_eq m) new ≡ true
  pub finds : is_first_at moment nodes n ≡ true
      → (m : ℕ) → list_any (has_number n) (line_of m nodes) ≡ true
      → list_any (nat_eq m) new ≡ true
  pub only : (m : ℕ) → list_any (nat_eq m) new ≡ true
      → (list_any (nat_eq m) old ≡ true) ⊎ (is_overdue moment nodes m ≡ true)

-- The numbers are of what is overdue, and each is there of what the entries up to the moment tell.
pub record GathersTold (moment : ℕ) (entries : List (ℕ × ℕ)) (nodes : List ResourceData)
    (found : List ℕ) : Type 0 where
  pub finds : (early n : ℕ) → early ≤ moment → is_listed early n entries ≡ true
      → is_first_at moment nodes n ≡ true
      → (m : ℕ) → list_any (has_number n) (line_of m nodes) ≡ true
      → list_any (nat_eq m) found ≡ true
  pub only : (m : ℕ) → list_any (nat_eq m) found ≡ true → is_overdue moment nodes m ≡ true
