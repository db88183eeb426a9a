use Rattle.std.proofs.Common.{◌≡◌, ◌-◌, Bool, true, false}
use Rattle.resource_model.specs.Resource.{ResourceData}
use Rattle.tree_model.specs.Tree.{has, without}
use Rattle.resource_tree.proofs.index_tree.IndexTree.newest_below.Given as goal

-- one that goes with the first stands here
abbrev pub invariant-loop-child : goal.invariant-loop-child
invariant-loop-child l = record {
  there : has l.at l.self ≡ true;
  goes : (picks : ResourceData → Bool) → has l.number (without picks l.self) ≡ false → has l.at (without picks l.self) ≡ false;
}

-- numbers only grow
abbrev pub decreases-loop-child : goal.decreases-loop-child
decreases-loop-child l = 18446744073709551616 - l.at
