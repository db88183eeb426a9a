use Rattle.std.proofs.Common.{◌≡◌, take}
use Rattle.tree_model.specs.Tree.{instances_of}
use Rattle.container_limits.specs.Limits.{numbers_of}
use Rattle.container_limits.proofs.evicting.oldest_numbers.Given as goal

-- the numbers so far are those of the first ones
abbrev pub invariant-loop-k : goal.invariant-loop-k
invariant-loop-k g l = l.numbers.items ≡ numbers_of (take l.k (instances_of l.container (g.T.Tree.nodes l.tree)))
