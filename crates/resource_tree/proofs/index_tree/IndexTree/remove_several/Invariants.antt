use Rattle.std.proofs.Common.{◌≡◌, length, true}
use Rattle.tree_model.specs.Tree.{is_tree, without_all}
use Rattle.resource_tree.proofs.index_tree.IndexTree.remove_several.Given as goal

-- what the rest takes of what is left is what all take
abbrev pub invariant-loop-last : goal.invariant-loop-last
invariant-loop-last l = record {
  tree : is_tree l.self ≡ true;
  left : without_all l.left l.self ≡ without_all l.numbers l.fn.self;
}

abbrev pub decreases-loop-last : goal.decreases-loop-last
decreases-loop-last l = length l.left
