use Rattle.std.proofs.Common.{◌≡◌, drop}
use Rattle.tree_model.specs.Tree.{kin_of, number_at}
use Rattle.plain_tree.proofs.finding.kin_in.Given as goal

-- the one that is wanted of the rest is the one that is wanted of all
abbrev pub invariant-loop-resource : goal.invariant-loop-resource
invariant-loop-resource l = number_at l.left (kin_of l.ty l.parent (drop l.resource-index l.resources)) ≡ number_at l.k (kin_of l.ty l.parent l.resources)
