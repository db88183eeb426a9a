use Rattle.std.proofs.Common.{◌≡◌, ◌≤◌, ◌<◌, ◌+◌, ◌*◌, ◌-◌, true}
use Rattle.tree_model.specs.Tree.{all_after, is_tree, sizes_of}
use Rattle.resource_store.proofs.sizes.instance_sizes.Given as goal

-- what was added up and what is left is all
abbrev pub invariant-loop-resource : goal.invariant-loop-resource
invariant-loop-resource l = record {
  below : l.last < 18446744073709551616;
  small : l.sizes ≤ 9223372036854775808 * l.last;
  sizes : is_tree l.store ≡ true → l.sizes + sizes_of l.container (all_after l.last l.store) ≡ sizes_of l.container l.store;
}

-- numbers only grow
abbrev pub decreases-loop-resource : goal.decreases-loop-resource
decreases-loop-resource l = 18446744073709551616 - l.last
