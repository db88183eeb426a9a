use Rattle.std.proofs.Common.{◌-◌, ◌^◌}
use Rattle.tree_model.proofs.GatheringLemmas.{GathersUpTo}
use Rattle.resource_tree.proofs.index_tree.IndexTree.+gather.Given as goal

-- the children before the place were gathered, with all below them
abbrev pub invariant-loop-place : goal.invariant-loop-place
invariant-loop-place l = GathersUpTo l.self l.number l.place l.fn.numbers.items l.numbers.items

-- numbers grow on the way down
abbrev pub decreases-gather : goal.decreases-gather
decreases-gather l = 2 ^ 64 - l.number
