use Rattle.std.proofs.Common.{◌<◌, ap, sym, ◌∙◌, arith, zero-add}
use Rattle.tree_model.specs.Tree.{sizes_of}
use Rattle.tree_model.proofs.WalkLemmas.{all_after_zero}
use Rattle.resource_store.proofs.NextLemmas.{next_above, sizes_end, sizes_turn}
use Rattle.resource_store.proofs.sizes.instance_sizes.Goals as goal

pub loop-resource-init : goal.loop-resource-init
loop-resource-init c = record {
  below = omega arith;
  small = omega arith;
  sizes = λ tree. zero-add _ ∙ ap (sizes_of c.args.container) (sym (all_after_zero c.args.store.now tree));
}

pub loop-resource-smaller : goal.loop-resource-smaller
loop-resource-smaller c =
    let above : c.loop-resource.last < c.in-Some.resource.now.number = next_above c.loop-resource.last c.args.store.now c.in-Some.resource.now (sym c.in-Some.ensures.value) in
    omega (arith, above, c.number-last.ensures.value, c.number-last.ensures.count)

pub loop-resource-preserved : goal.loop-resource-preserved
loop-resource-preserved c =
    let above : c.loop-resource.last < c.in-Some.resource.now.number = next_above c.loop-resource.last c.args.store.now c.in-Some.resource.now (sym c.in-Some.ensures.value) in
    record {
      below = omega (arith, c.number-last.ensures.count);
      small = omega (arith, above, c.number-last.ensures.value, c.size_below.ensures.bound, c.loop-resource.invariant.small);
      sizes = λ tree. sizes_turn c.args.container c.loop-resource.last c.args.store.now c.in-Some.resource.now c.loop-resource.sizes c.size_below.result c.number-last.result (sizes_of c.args.container c.args.store.now) tree (sym c.in-Some.ensures.value) c.number-last.ensures.value c.size_below.ensures.value (c.loop-resource.invariant.sizes tree);
    }

pub returns-clause-value : goal.returns-clause-value
returns-clause-value c = sizes_end c.args.container c.loop-resource.last c.args.store.now c.loop-resource.sizes (sizes_of c.args.container c.args.store.now) c.in_default.ensures.value (c.loop-resource.invariant.sizes c.in_default.ensures.tree)
