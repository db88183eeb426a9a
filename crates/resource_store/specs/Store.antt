-- Resources by their numbers, in order, with gaps where some have gone.
use Rattle.std.specs.Prelude.{◌≡◌, ℕ, nat_eq, List, length, true, Option, Some, filter_map}
use Rattle.std.specs.List.{list_any}
use Rattle.resource_model.specs.Resource.{ResourceData}
use Rattle.tree_model.specs.Tree.{is_tree, DoAscend}

-- the resources that the numbers have, in the order of the numbers
abbrev pub resources_of : List ℕ → (ℕ → Option ResourceData) → List ResourceData
resources_of numbers m = filter_map m numbers

-- the numbers ascend, each resource stands at its own number, which is one of them, and so many
-- are there
pub record IsStore (order : List ℕ) (m : ℕ → Option ResourceData) (count : ℕ) : Type 0 where
  pub ascends : DoAscend order
  pub numbered : (n : ℕ) (r : ResourceData) → m n ≡ Some r → r.number ≡ n
  pub listed : (n : ℕ) (r : ResourceData) → m n ≡ Some r
      → list_any (nat_eq n) order ≡ true
  pub counted : count ≡ length (resources_of order m)

-- and they are a tree
pub record HoldsTree (order : List ℕ) (m : ℕ → Option ResourceData) (count : ℕ) : Type 0 where
  pub store : IsStore order m count
  pub tree : is_tree (resources_of order m) ≡ true

-- numbers may have gone, but none that a resource has
pub record KeepsPresent (m : ℕ → Option ResourceData) (before after : List ℕ) : Type 0 where
  pub kept : resources_of after m ≡ resources_of before m
  pub ascends : DoAscend before → DoAscend after
  pub listed : (n : ℕ) (r : ResourceData) → m n ≡ Some r
      → list_any (nat_eq n) before ≡ true → list_any (nat_eq n) after ≡ true
