use Rattle.std.proofs.Common.{List, ℕ, not, sym, ap, ◌∙◌, subst}
use Rattle.tree_model.specs.Tree.{has, is_numbered_in, is_tree, live, without_all, DoAscend}
use Rattle.tree_model.proofs.GrowthLemmas.{ascending_from_tree}
use Rattle.tree_model.proofs.KeptLemmas.{is_tree-without}
use Rattle.tree_model.proofs.ManyLemmas.{ascending_filter}
use Rattle.entity_model.proofs.OverdueLemmas.{live_still, without_overdue}
use Rattle.entity_model.proofs.sweeping.age_without.Goals as goal

pub remove_all-requires : goal.remove_all-requires
remove_all-requires g c =
    let nodes = g.T.Tree.nodes c.args.tree.now in
    subst DoAscend (sym c.requires.gone) (ascending_filter (λ r. not (has r.number (live c.args.moment nodes))) nodes (ascending_from_tree nodes c.requires.tree))

pub age-requires : goal.age-requires
age-requires g c =
    let nodes = g.T.Tree.nodes c.args.tree.now in
    ap is_tree c.remove_all.ensures ∙ is_tree-without (is_numbered_in c.args.gone.now) nodes c.requires.tree

pub returns-clause-nodes : goal.returns-clause-nodes
returns-clause-nodes g c =
    let nodes = g.T.Tree.nodes c.args.tree.now in
    c.age.ensures.nodes
    ∙ ap (live c.args.moment) (c.remove_all.ensures ∙ ap (λ (ns : List ℕ). without_all ns nodes) c.requires.gone ∙ without_overdue c.args.moment nodes c.requires.tree)
    ∙ live_still c.args.moment nodes c.requires.tree
