use Rattle.std.proofs.Common.{◌≡◌, ℕ, List, IfOk, sym, ap, ◌∙◌, subst}
use Rattle.tree_model.specs.Changes.{ChangeData, deletion_changes, removal_changes}
use Rattle.tree_model.specs.Tree.{DoAscend}
use Rattle.tree_model.proofs.GrowthLemmas.{tree_from_well_formed}
use Rattle.entity_model.specs.Telling.{IsTold}
use Rattle.create_delete.specs.Telling.{numbers_below}
use Rattle.create_delete.proofs.CarriedLemmas.{below_ascend, below_removed}
use Rattle.create_delete.proofs.notifying.prepare_deletion.Goals as goal

pub returns-then-is_unnoticed-clause-told : goal.returns-then-is_unnoticed-clause-told
returns-then-is_unnoticed-clause-told g c =
    let nodes = g.T.Tree.nodes c.args.tree.now in
    let home = c.args.home.now in
    let going = numbers_below c.args.target nodes in
    c.nothing_told.ensures.told home nodes going (deletion_changes nodes c.args.target) (c.is_unnoticed.ensures.told c.if-is_unnoticed.true home going) (c.is_unnoticed.ensures.sent c.if-is_unnoticed.true home)

pub numbers_below-requires-clause-tree : goal.numbers_below-requires-clause-tree
numbers_below-requires-clause-tree g c = tree_from_well_formed (g.T.Tree.nodes c.args.tree.now) c.requires.formed

pub prepare_telling-requires-clause-ascend : goal.prepare_telling-requires-clause-ascend
prepare_telling-requires-clause-ascend g c =
    subst DoAscend (sym (c.entries-3.ensures ∙ c.in_ok-going.ensures)) (below_ascend c.args.target (g.T.Tree.nodes c.args.tree.now) (tree_from_well_formed (g.T.Tree.nodes c.args.tree.now) c.requires.formed))

pub returns-clause-told : goal.returns-clause-told
returns-clause-told g c =
    let nodes = g.T.Tree.nodes c.args.tree.now in
    let home = c.args.home.now in
    let changes : c.of_removal-changes.result ≡ deletion_changes nodes c.args.target =
    c.of_removal-changes.ensures ∙ ap (removal_changes nodes) (c.entries.ensures ∙ c.in_ok-going.ensures)
    ∙ below_removed c.args.target nodes (tree_from_well_formed (g.T.Tree.nodes c.args.tree.now) c.requires.formed) in
    subst (λ (going : List ℕ). IfOk c.prepare_telling.result (IsTold home nodes going (deletion_changes nodes c.args.target))) (c.entries-3.ensures ∙ c.in_ok-going.ensures)
    (subst (λ (cs : List ChangeData). IfOk c.prepare_telling.result (IsTold home nodes c.entries-3.result.now cs)) changes c.prepare_telling.ensures.told)
