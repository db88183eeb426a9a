use Rattle.std.proofs.Common.{◌≡◌, ◌-◌, true}
use Rattle.tree_model.specs.Tree.{is_tree, live}
use Rattle.resource_tree.proofs.RemovalLemmas.{ArePast}
use Rattle.resource_tree.proofs.index_tree.IndexTree.expire_each.Given as goal

-- what is live stays what it was, and what stands until the last number isn't due
abbrev pub invariant-loop-number : goal.invariant-loop-number
invariant-loop-number l = record {
  live : live l.moment l.self ≡ live l.moment l.fn.self;
  past : is_tree l.self ≡ true → ArePast l.last l.moment l.self;
}

-- numbers only grow
abbrev pub decreases-loop-number : goal.decreases-loop-number
decreases-loop-number l = 18446744073709551616 - l.last
