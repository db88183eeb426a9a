use Rattle.std.proofs.Common.{◌≡◌, length}
use Rattle.tree_model.specs.Tree.{live}
use Rattle.resource_tree.proofs.index_tree.IndexTree.expire_told.Given as goal

-- what is live stays what it was
abbrev pub invariant-loop : goal.invariant-loop
invariant-loop l = live l.moment l.self ≡ live l.moment l.fn.self

-- fewer are left
abbrev pub decreases-loop : goal.decreases-loop
decreases-loop l = length l.self
