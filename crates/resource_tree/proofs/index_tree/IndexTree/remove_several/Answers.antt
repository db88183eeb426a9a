use Rattle.std.proofs.Common.{List, ℕ, sym, ap, ◌∙◌}
use Rattle.std.proofs.lemmas.List.{nil_from_length}
use Rattle.tree_model.specs.Tree.{is_tree, without_all}
use Rattle.tree_model.proofs.KeptLemmas.{is_tree-without}
use Rattle.tree_model.proofs.ManyLemmas.{nothing_removed}
use Rattle.resource_tree.proofs.RemovalLemmas.{others_then_one}
use Rattle.resource_tree.proofs.index_tree.IndexTree.remove_several.Goals as goal

pub loop-last-preserved : goal.loop-last-preserved
loop-last-preserved c = record {
  tree = ap is_tree c.remove_one.ensures.value ∙ is_tree-without _ c.loop-last.self c.loop-last.invariant.tree;
  left =
      ap (without_all c.in-Some.others.now) c.remove_one.ensures.value
      ∙ others_then_one _ c.in-Some.others.now c.loop-last.self c.loop-last.invariant.tree
      ∙ ap (λ (ns : List ℕ). without_all ns c.loop-last.self) (sym c.in-Some.ensures.cases.0)
      ∙ c.loop-last.invariant.left;
}

pub returns : goal.returns
returns c =
    sym (nothing_removed c.loop-last.self c.loop-last.invariant.tree)
    ∙ ap (λ (ns : List ℕ). without_all ns c.loop-last.self) (sym (nil_from_length c.loop-last.left.now c.in_default.ensures.cases))
    ∙ c.loop-last.invariant.left
