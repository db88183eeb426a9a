use Rattle.std.proofs.Common.{◌≡◌, ◌+◌, ◌≤◌, ◌++◌, ℕ, List, length, drop, option_map, option_to_list, unwrap_or, sym, ap, ◌∙◌, arith}
use Rattle.std.specs.List.{filter}
use Rattle.m2m_value.proofs.Begins.{on_err}
use Rattle.tree_model.specs.Tree.{is_instance, instances_of}
use Rattle.tree_model.proofs.OrderLemmas.{tree_ascends, ascend_filter}
use Rattle.container_limits.specs.Limits.{evicted, lasts}
use Rattle.container_limits.proofs.LimitLemmas.{count_turn, size_turn, fits_totals, gone_all, gone_turn}
use Rattle.container_limits.proofs.MemoryLemmas.{going_some}
use Rattle.container_limits.proofs.PlaceLemmas.{taken}
use Rattle.container_limits.proofs.evicting.some_gone.Goals as goal

pub loop-k-init : goal.loop-k-init
loop-k-init g c =
    let rs = instances_of c.args.container (g.T.Tree.nodes c.args.tree.now) in
    record {
      rest = c.over_instances-oldest.ensures;
      count = c.with_new-left.ensures.count ∙ ap (λ n. n + length (option_to_list c.args.new_size)) c.lasting_total-lasting.ensures.count;
      sizes = c.with_new-left.ensures.sizes ∙ ap (λ n. n + unwrap_or c.args.new_size 0) c.lasting_total-lasting.ensures.sizes;
      numbers = ap (λ (ns : List ℕ). ns ++ evicted c.args.limits c.args.new_size c.args.moment rs) c.new-numbers.ensures.items;
    }

pub loop-k-preserved : goal.loop-k-preserved
loop-k-preserved g c =
    let nodes = g.T.Tree.nodes c.args.tree.now in
    let rs = instances_of c.args.container nodes in
    let next = taken rs c.loop-k.oldest c.next-instance.new.self c.loop-k.k c.next-instance.result c.loop-k.invariant.rest c.next-instance.ensures.steps in
    let last = lasts c.args.limits.mia c.args.moment in
    let rest = filter last (drop c.loop-k.k rs) in
    record {
      rest = next.1;
      count = count_turn last rs c.loop-k.k (length (option_to_list c.args.new_size)) (option_map (λ r. r.now) c.next-instance.result) next.0 c.loop-k.left.count c.without-left.result.count c.loop-k.invariant.count c.without-left.ensures.count;
      sizes = size_turn last rs c.loop-k.k (unwrap_or c.args.new_size 0) (option_map (λ r. r.now) c.next-instance.result) next.0 c.loop-k.left.sizes c.without-left.result.sizes c.loop-k.invariant.sizes c.without-left.ensures.sizes;
      numbers = gone_turn c.args.limits c.args.new_size c.args.moment rs c.loop-k.k c.loop-k.numbers.items c.push_gone.new.numbers.items (evicted c.args.limits c.args.new_size c.args.moment rs) (option_map (λ r. r.now) c.next-instance.result) c.is_total_within-fits.result
          (ascend_filter (is_instance c.args.container) nodes (tree_ascends nodes c.requires.tree)) next.0
          (c.is_total_within-fits.ensures ∙ fits_totals c.args.limits c.args.new_size rest c.loop-k.left.count c.loop-k.left.sizes c.loop-k.invariant.count c.loop-k.invariant.sizes)
          c.loop-k.invariant.numbers c.in_ok-push_gone.ensures.ok;
    }

pub returns-in_err-push_gone-clause-memory : goal.returns-in_err-push_gone-clause-memory
returns-in_err-push_gone-clause-memory g c =
    let nodes = g.T.Tree.nodes c.args.tree.now in
    let rs = instances_of c.args.container nodes in
    let next = taken rs c.loop-k.oldest c.next-instance.new.self c.loop-k.k c.next-instance.result c.loop-k.invariant.rest c.next-instance.ensures.steps in
    let rest = filter (lasts c.args.limits.mia c.args.moment) (drop c.loop-k.k rs) in
    on_err c.from_residual.result _ (going_some c.args.limits c.args.new_size c.args.moment rs c.loop-k.k c.loop-k.numbers.items (evicted c.args.limits c.args.new_size c.args.moment rs) (option_map (λ r. r.now) c.next-instance.result) c.is_total_within-fits.result
    (ascend_filter (is_instance c.args.container) nodes (tree_ascends nodes c.requires.tree)) next.0
    (c.is_total_within-fits.ensures ∙ fits_totals c.args.limits c.args.new_size rest c.loop-k.left.count c.loop-k.left.sizes c.loop-k.invariant.count c.loop-k.invariant.sizes)
    c.loop-k.invariant.numbers c.in_err-push_gone.ensures.memory)

pub returns-clause-value : goal.returns-clause-value
returns-clause-value g c =
    let rs = instances_of c.args.container (g.T.Tree.nodes c.args.tree.now) in
    let past : length rs ≤ c.loop-k.k = omega (arith, c.loop-k-test.false, c.instance_count-k-end.ensures) in
    gone_all c.args.limits c.args.new_size c.args.moment rs c.loop-k.k c.loop-k.numbers.items (evicted c.args.limits c.args.new_size c.args.moment rs) past c.loop-k.invariant.numbers
