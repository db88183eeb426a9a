use Rattle.std.proofs.Common.{◌≡◌, ◌+◌, ◌-◌, ◌<◌, ℕ, List, [], Bool, true, false, length, drop, option_to_list, unwrap_or, sym, ap, refl, ◌∙◌, arith, length-drop}
use Rattle.std.proofs.lemmas.List.{drop_all}
use Rattle.std.specs.List.{slice_get, sum_by}
use Rattle.tree_model.specs.Tree.{instances_of, instance_size}
use Rattle.container_limits.specs.Limits.{do_fit, longest_fit}
use Rattle.container_limits.proofs.LimitLemmas.{fit_here, fit_none, fits_totals}
use Rattle.container_limits.proofs.OutsideLemmas.{newest_turn, one_more, outside_over, part_small, size_more}
use Rattle.container_limits.proofs.outside.outside_by_size.Goals as goal

pub loop-k-init : goal.loop-k-init
loop-k-init g c =
    let rs = instances_of c.args.container (g.T.Tree.nodes c.args.tree.now) in
    let l = c.args.limits in
    let new = c.args.new_size in
    let none : drop (c.instance_count-count.result - 0) rs ≡ [] = drop_all (c.instance_count-count.result - 0) rs (omega (arith, c.instance_count-count.ensures)) in
    let no_count : length (drop (c.instance_count-count.result - 0) rs) ≡ 0 = ap length none in
    let no_size : sum_by instance_size (drop (c.instance_count-count.result - 0) rs) ≡ 0 = ap (sum_by instance_size) none in
    record {
      count = c.with_new-rest.ensures.count ∙ ap (λ n. n + length (option_to_list new)) c.total-all.ensures.count;
      sizes = c.with_new-rest.ensures.sizes ∙ ap (λ n. n + unwrap_or new 0) c.total-all.ensures.sizes;
      newest_count = omega (arith, c.with_new-newest.ensures.count, no_count);
      newest_sizes = omega (arith, c.with_new-newest.ensures.sizes, no_size);
      within = refl;
      stay = ap (longest_fit l new) none ∙ fit_none l new ∙ sym none;
    }

pub returns-then-fits : goal.returns-then-fits
returns-then-fits g c =
    let rs = instances_of c.args.container (g.T.Tree.nodes c.args.tree.now) in
    let l = c.args.limits in
    let new = c.args.new_size in
    let rest = drop c.loop-k.k rs in
    let fits : do_fit l new rest ≡ true = sym (fits_totals l new rest c.loop-k.rest.count c.loop-k.rest.sizes c.loop-k.invariant.count c.loop-k.invariant.sizes) ∙ sym c.is_total_within-fits.ensures ∙ c.if-fits.true in
    c.loop-k.invariant.within ∙ fit_here l new rest fits

pub more-newest-requires-clause-count : goal.more-newest-requires-clause-count
more-newest-requires-clause-count g c =
    let rs = instances_of c.args.container (g.T.Tree.nodes c.args.tree.now) in
    let turn = newest_turn rs c.instance_count-count.result c.loop-k.k c.instance_count-count.ensures c.loop-k-test.true in
    omega (arith, c.loop-k-test.true, c.instance_count-count.ensures, c.loop-k.invariant.newest_count, turn.0, length-drop (c.instance_count-count.result - (c.loop-k.k + 1)) rs, c.total-all.ensures.count, c.with_new-rest.ensures.count, c.with_new-rest.ensures.few)

pub more-newest-requires-clause-sizes : goal.more-newest-requires-clause-sizes
more-newest-requires-clause-sizes g c =
    let rs = instances_of c.args.container (g.T.Tree.nodes c.args.tree.now) in
    let turn = newest_turn rs c.instance_count-count.result c.loop-k.k c.instance_count-count.ensures c.loop-k-test.true in
    omega (arith, c.loop-k.invariant.newest_sizes, c.size_at-last.ensures, turn.1, part_small (c.instance_count-count.result - (c.loop-k.k + 1)) rs, c.total-all.ensures.sizes, c.with_new-rest.ensures.sizes, c.with_new-rest.ensures.small)

pub returns-then-not-stays : goal.returns-then-not-stays
returns-then-not-stays g c =
    let rs = instances_of c.args.container (g.T.Tree.nodes c.args.tree.now) in
    let l = c.args.limits in
    let new = c.args.new_size in
    let place = c.instance_count-count.result - (c.loop-k.k + 1) in
    let turn = newest_turn rs c.instance_count-count.result c.loop-k.k c.instance_count-count.ensures c.loop-k-test.true in
    let count : c.more-newest.result.count ≡ length (drop place rs) + length (option_to_list new) = omega (arith, c.more-newest.ensures.count, c.loop-k.invariant.newest_count, turn.0) in
    let sizes : c.more-newest.result.sizes ≡ sum_by instance_size (drop place rs) + unwrap_or new 0 = omega (arith, c.more-newest.ensures.sizes, c.loop-k.invariant.newest_sizes, c.size_at-last.ensures, turn.1) in
    let over : do_fit l new (drop place rs) ≡ false = sym (fits_totals l new (drop place rs) c.more-newest.result.count c.more-newest.result.sizes count sizes) ∙ sym c.is_total_within-stays.ensures ∙ c.if-not-stays.true in
    let next : place + 1 ≡ c.instance_count-count.result - c.loop-k.k = omega (arith, c.loop-k-test.true) in
    outside_over l new place rs over ∙ ap (λ n. longest_fit l new (drop n rs)) next ∙ c.loop-k.invariant.stay

pub loop-k-preserved : goal.loop-k-preserved
loop-k-preserved g c =
    let rs = instances_of c.args.container (g.T.Tree.nodes c.args.tree.now) in
    let l = c.args.limits in
    let new = c.args.new_size in
    let k = c.loop-k.k in
    let place = c.instance_count-count.result - (k + 1) in
    let turn = newest_turn rs c.instance_count-count.result k c.instance_count-count.ensures c.loop-k-test.true in
    let count : c.more-newest.result.count ≡ length (drop place rs) + length (option_to_list new) = omega (arith, c.more-newest.ensures.count, c.loop-k.invariant.newest_count, turn.0) in
    let sizes : c.more-newest.result.sizes ≡ sum_by instance_size (drop place rs) + unwrap_or new 0 = omega (arith, c.more-newest.ensures.sizes, c.loop-k.invariant.newest_sizes, c.size_at-last.ensures, turn.1) in
    let fit : do_fit l new (drop place rs) ≡ true = sym (fits_totals l new (drop place rs) c.more-newest.result.count c.more-newest.result.sizes count sizes) ∙ sym c.is_total_within-stays.ensures ∙ c.if-not-stays.false in
    let rest = drop k rs in
    let over : do_fit l new rest ≡ false = sym (fits_totals l new rest c.loop-k.rest.count c.loop-k.rest.sizes c.loop-k.invariant.count c.loop-k.invariant.sizes) ∙ sym c.is_total_within-fits.ensures ∙ c.if-fits.false in
    let within : k < length rs = omega (arith, c.loop-k-test.true, c.instance_count-count.ensures) in
    record {
      count = omega (arith, c.less-rest.ensures.count, c.loop-k.invariant.count, one_more k rs within);
      sizes = omega (arith, c.less-rest.ensures.sizes, c.loop-k.invariant.sizes, c.size_at-first.ensures, size_more k rs);
      newest_count = count;
      newest_sizes = sizes;
      within = outside_over l new k rs over;
      stay = fit_here l new (drop place rs) fit;
    }

pub returns : goal.returns
returns g c =
    let rs = instances_of c.args.container (g.T.Tree.nodes c.args.tree.now) in
    let l = c.args.limits in
    let new = c.args.new_size in
    let none : drop c.loop-k.k rs ≡ [] = drop_all c.loop-k.k rs (omega (arith, c.loop-k-test.false, c.instance_count-count.ensures)) in
    let all : drop c.instance_count-count.result rs ≡ [] = drop_all c.instance_count-count.result rs (omega (arith, c.instance_count-count.ensures)) in
    c.loop-k.invariant.within ∙ ap (longest_fit l new) none ∙ fit_none l new ∙ sym all
