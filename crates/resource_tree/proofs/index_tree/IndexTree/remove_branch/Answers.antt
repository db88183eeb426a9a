use Rattle.std.proofs.Common.{◌≡◌, List, false, sym, subst, length, ◌<◌}
use Rattle.std.proofs.lemmas.Bool.{ne_eqb}
use Rattle.resource_model.specs.Resource.{ResourceData, has_number}
use Rattle.tree_model.specs.Tree.{has, without}
use Rattle.tree_model.proofs.LiveLemmas.{without_none}
use Rattle.resource_tree.proofs.RemovalLemmas.{fewer, going_up, number_goes}
use Rattle.std.proofs.Common.{refl}
use Rattle.resource_tree.proofs.index_tree.IndexTree.remove_branch.Goals as goal

pub returns-then-not-has-clause-value : goal.returns-then-not-has-clause-value
returns-then-not-has-clause-value c =
    let none : has c.args.number c.self.inside.list ≡ false = sym c.if-not-has.ensures in
    subst (λ (ns : List ResourceData). ns ≡ without (has_number c.args.number) ns) c.self.view_is
    (sym (without_none (has_number c.args.number) c.self.inside.list c.self.invariant.tree none))

pub loop-leaf-init : goal.loop-leaf-init
loop-leaf-init c = record {
  whole = refl;
  alone = c.newest_below-leaf.ensures.alone;
  there = c.newest_below-leaf.ensures.there;
  goes = c.newest_below-leaf.ensures.goes (has_number c.args.number) (number_goes c.args.number c.args.self.now c.newest_below-leaf.ensures.tree);
}

pub newest_below-leaf-requires-in-loop-leaf : goal.newest_below-leaf-requires-in-loop-leaf
newest_below-leaf-requires-in-loop-leaf c =
    (going_up c.args.number c.loop-leaf.leaf c.remove_leaf-parent.result c.args.self.now c.loop-leaf.self c.remove_leaf-parent.new.self c.remove_leaf-parent.ensures.tree c.loop-leaf.invariant (ne_eqb c.loop-leaf.leaf c.args.number c.loop-leaf-test.true) c.remove_leaf-parent.ensures.parent c.remove_leaf-parent.ensures.value).1

pub loop-leaf-smaller : goal.loop-leaf-smaller
loop-leaf-smaller c =
    subst (λ (ns : List ResourceData). length ns < length c.loop-leaf.self) (sym c.remove_leaf-parent.ensures.value) (fewer c.loop-leaf.leaf c.loop-leaf.self c.remove_leaf-parent.ensures.tree c.loop-leaf.invariant.there)

pub loop-leaf-preserved : goal.loop-leaf-preserved
loop-leaf-preserved c =
    let up = going_up c.args.number c.loop-leaf.leaf c.remove_leaf-parent.result c.args.self.now c.loop-leaf.self c.remove_leaf-parent.new.self c.remove_leaf-parent.ensures.tree c.loop-leaf.invariant (ne_eqb c.loop-leaf.leaf c.args.number c.loop-leaf-test.true) c.remove_leaf-parent.ensures.parent c.remove_leaf-parent.ensures.value in
    record {
      whole = up.0;
      alone = c.newest_below-leaf-in-loop-leaf.ensures.alone;
      there = c.newest_below-leaf-in-loop-leaf.ensures.there;
      goes = c.newest_below-leaf-in-loop-leaf.ensures.goes (has_number c.args.number) up.2;
    }
