use Rattle.std.proofs.Common.{◌≡◌, ◌+◌, length, drop}
use Rattle.std.specs.List.{filter, sum_by}
use Rattle.tree_model.specs.Tree.{instances_of, instance_size}
use Rattle.container_limits.specs.Limits.{is_due_by, lasts}
use Rattle.container_limits.proofs.instances.lasting_total.Given as goal

-- what is left is what lasts, and what is due of those still to be looked at
abbrev pub invariant-loop-k : goal.invariant-loop-k
invariant-loop-k g l = record {
  rest : l.oldest ≡ drop l.k (instances_of l.container (g.T.Tree.nodes l.tree));
  count : l.total.count ≡ length (filter (is_due_by l.mia l.moment) (drop l.k (instances_of l.container (g.T.Tree.nodes l.tree)))) + length (filter (lasts l.mia l.moment) (instances_of l.container (g.T.Tree.nodes l.tree)));
  sizes : l.total.sizes ≡ sum_by instance_size (filter (is_due_by l.mia l.moment) (drop l.k (instances_of l.container (g.T.Tree.nodes l.tree)))) + sum_by instance_size (filter (lasts l.mia l.moment) (instances_of l.container (g.T.Tree.nodes l.tree)));
}
