use Rattle.std.proofs.Common.{◌≡◌, ◌+◌, ◌++◌, length, drop, option_to_list, unwrap_or}
use Rattle.std.specs.List.{filter, sum_by}
use Rattle.tree_model.specs.Tree.{instances_of, instance_size}
use Rattle.container_limits.specs.Limits.{evicted, lasts}
use Rattle.container_limits.proofs.evicting.some_gone.Given as goal

-- the totals are those of what is left, and the numbers so far and what goes of that is what goes
abbrev pub invariant-loop-k : goal.invariant-loop-k
invariant-loop-k g l = record {
  rest : l.oldest ≡ drop l.k (instances_of l.container (g.T.Tree.nodes l.tree));
  count : l.left.count ≡ length (filter (lasts l.limits.mia l.moment) (drop l.k (instances_of l.container (g.T.Tree.nodes l.tree)))) + length (option_to_list l.fn.new_size);
  sizes : l.left.sizes ≡ sum_by instance_size (filter (lasts l.limits.mia l.moment) (drop l.k (instances_of l.container (g.T.Tree.nodes l.tree)))) + unwrap_or l.fn.new_size 0;
  numbers : l.numbers.items ++ evicted l.limits l.fn.new_size l.moment (drop l.k (instances_of l.container (g.T.Tree.nodes l.tree))) ≡ evicted l.limits l.fn.new_size l.moment (instances_of l.container (g.T.Tree.nodes l.tree));
}
