use Rattle.std.proofs.Common.{◌≡◌, ◌≤◌, ◌+◌, drop, length}
use Rattle.tree_model.specs.Tree.{instances_of}
use Rattle.plain_tree.proofs.finding.count_of_instances.Given as goal

-- what was counted and what is left is all
abbrev pub invariant-loop-resource : goal.invariant-loop-resource
invariant-loop-resource l = record {
  few : l.count ≤ l.resource-index;
  count : l.count + length (instances_of l.container (drop l.resource-index l.resources)) ≡ length (instances_of l.container l.resources);
}
