-- What is overdue in a tree.
use Rattle.std.specs.Prelude.{◌≡◌, ◌<◌, ◌&&◌, ℕ, List, Bool, false, nat_eq, not}
use Rattle.std.specs.List.{list_any}
use Rattle.std.specs.Option.{option_map_or}
use Rattle.resource_model.specs.Resource.{ResourceData}
use Rattle.tree_model.specs.Tree.{at, has, is_due, live, DoAscend}

-- a resource of the number is there, and isn't live at the moment
abbrev pub is_overdue : ℕ → List ResourceData → ℕ → Bool
is_overdue moment nodes n = has n nodes && not (has n (live moment nodes))

-- The resource is due by the moment, and nothing that it stands under is.
abbrev pub is_first : ℕ → List ResourceData → ResourceData → Bool
is_first moment nodes r = is_due nodes moment r && not (is_overdue moment nodes r.parent)

-- The resource of the number is so.
abbrev pub is_first_at : ℕ → List ResourceData → ℕ → Bool
is_first_at moment nodes n = option_map_or (is_first moment nodes) (at n nodes) false

-- These numbers ascend. Those of them that are lower than this one are the numbers of the resources
-- before it that aren't live at the moment.
pub record KnowsBefore (moment : ℕ) (nodes : List ResourceData) (number : ℕ) (numbers : List ℕ) : Type 0 where
  pub ascend : DoAscend numbers
  pub before : (n : ℕ) → n < number → list_any (nat_eq n) numbers ≡ is_overdue moment nodes n
