use Rattle.std.proofs.Common.{◌≡◌, ◌+◌, ◌-◌, length, drop, option_to_list, unwrap_or}
use Rattle.std.specs.List.{sum_by}
use Rattle.tree_model.specs.Tree.{instances_of, instance_size}
use Rattle.container_limits.specs.Limits.{longest_fit}
use Rattle.container_limits.proofs.outside.outside_by_size.Given as goal

-- the totals are those of what is left and of the newest ones; what stays is within the one, and
-- the other stays
abbrev pub invariant-loop-k : goal.invariant-loop-k
invariant-loop-k g l = record {
  count : l.rest.count ≡ length (drop l.k (instances_of l.container (g.T.Tree.nodes l.tree))) + length (option_to_list l.fn.new_size);
  sizes : l.rest.sizes ≡ sum_by instance_size (drop l.k (instances_of l.container (g.T.Tree.nodes l.tree))) + unwrap_or l.fn.new_size 0;
  newest_count : l.newest.count ≡ length (drop (l.count - l.k) (instances_of l.container (g.T.Tree.nodes l.tree))) + length (option_to_list l.fn.new_size);
  newest_sizes : l.newest.sizes ≡ sum_by instance_size (drop (l.count - l.k) (instances_of l.container (g.T.Tree.nodes l.tree))) + unwrap_or l.fn.new_size 0;
  within : longest_fit l.limits l.fn.new_size (instances_of l.container (g.T.Tree.nodes l.tree)) ≡ longest_fit l.limits l.fn.new_size (drop l.k (instances_of l.container (g.T.Tree.nodes l.tree)));
  stay : longest_fit l.limits l.fn.new_size (drop (l.count - l.k) (instances_of l.container (g.T.Tree.nodes l.tree))) ≡ drop (l.count - l.k) (instances_of l.container (g.T.Tree.nodes l.tree));
}
