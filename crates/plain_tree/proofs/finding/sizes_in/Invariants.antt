use Rattle.std.proofs.Common.{◌≡◌, ◌≤◌, ◌+◌, ◌*◌, drop}
use Rattle.tree_model.specs.Tree.{sizes_of}
use Rattle.plain_tree.proofs.finding.sizes_in.Given as goal

-- what was added up and what is left is all
abbrev pub invariant-loop-resource : goal.invariant-loop-resource
invariant-loop-resource l = record {
  small : l.sizes ≤ 9223372036854775808 * l.resource-index;
  sizes : l.sizes + sizes_of l.container (drop l.resource-index l.resources) ≡ sizes_of l.container l.resources;
}
