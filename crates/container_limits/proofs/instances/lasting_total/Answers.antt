use Rattle.std.proofs.Common.{◌≡◌, ◌≤◌, length, drop, option_map, ap, ◌∙◌, arith}
use Rattle.std.specs.List.{filter, sum_by}
use Rattle.tree_model.specs.Tree.{instances_of, instance_size}
use Rattle.container_limits.specs.Limits.{is_due_by, lasts}
use Rattle.container_limits.proofs.LimitLemmas.{counts_split, sizes_split, count_turn, size_turn, nothing_left}
use Rattle.container_limits.proofs.PlaceLemmas.{taken}
use Rattle.container_limits.proofs.instances.lasting_total.Goals as goal

pub loop-k-init : goal.loop-k-init
loop-k-init g c = record {
  rest = c.over_instances-oldest.ensures;
  count = c.total-total.ensures.count ∙ counts_split c.args.mia c.args.moment (instances_of c.args.container (g.T.Tree.nodes c.args.tree.now));
  sizes = c.total-total.ensures.sizes ∙ sizes_split c.args.mia c.args.moment (instances_of c.args.container (g.T.Tree.nodes c.args.tree.now));
}

pub loop-k-preserved : goal.loop-k-preserved
loop-k-preserved g c =
    let rs = (instances_of c.args.container (g.T.Tree.nodes c.args.tree.now)) in
    let next = taken rs c.loop-k.oldest c.next-instance.new.self c.loop-k.k c.next-instance.result c.loop-k.invariant.rest c.next-instance.ensures.steps in
    record {
      rest = next.1;
      count = count_turn (is_due_by c.args.mia c.args.moment) rs c.loop-k.k (length (filter (lasts c.args.mia c.args.moment) rs)) (option_map (λ r. r.now) c.next-instance.result) next.0 c.loop-k.total.count c.without-total.result.count c.loop-k.invariant.count c.without-total.ensures.count;
      sizes = size_turn (is_due_by c.args.mia c.args.moment) rs c.loop-k.k (sum_by instance_size (filter (lasts c.args.mia c.args.moment) rs)) (option_map (λ r. r.now) c.next-instance.result) next.0 c.loop-k.total.sizes c.without-total.result.sizes c.loop-k.invariant.sizes c.without-total.ensures.sizes;
    }

pub returns-clause-few : goal.returns-clause-few
returns-clause-few g c =
    let rs = (instances_of c.args.container (g.T.Tree.nodes c.args.tree.now)) in
    let past : length rs ≤ c.loop-k.k = omega (arith, c.loop-k-test.false, c.instance_count-k-end.ensures) in
    let none : length (filter (is_due_by c.args.mia c.args.moment) (drop c.loop-k.k rs)) ≡ 0 = ap length (nothing_left (is_due_by c.args.mia c.args.moment) rs c.loop-k.k past) in
    omega (arith, none, c.loop-k.invariant.count, counts_split c.args.mia c.args.moment rs, c.total-total.ensures.count, c.total-total.ensures.few)

pub returns-clause-small : goal.returns-clause-small
returns-clause-small g c =
    let rs = (instances_of c.args.container (g.T.Tree.nodes c.args.tree.now)) in
    let past : length rs ≤ c.loop-k.k = omega (arith, c.loop-k-test.false, c.instance_count-k-end.ensures) in
    let none : sum_by instance_size (filter (is_due_by c.args.mia c.args.moment) (drop c.loop-k.k rs)) ≡ 0 = ap (sum_by instance_size) (nothing_left (is_due_by c.args.mia c.args.moment) rs c.loop-k.k past) in
    omega (arith, none, c.loop-k.invariant.sizes, sizes_split c.args.mia c.args.moment rs, c.total-total.ensures.sizes, c.total-total.ensures.small)
