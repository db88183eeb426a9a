use Rattle.std.proofs.Common.{length}
use Rattle.resource_tree.proofs.RemovalLemmas.{IsGoing}
use Rattle.resource_tree.proofs.index_tree.IndexTree.remove_branch.Given as goal

-- what is left to be removed is what it was, and a leaf of it is at hand
abbrev pub invariant-loop-leaf : goal.invariant-loop-leaf
invariant-loop-leaf l = IsGoing l.number l.leaf l.fn.self l.self

-- fewer are left
abbrev pub decreases-loop-leaf : goal.decreases-loop-leaf
decreases-loop-leaf l = length l.self
