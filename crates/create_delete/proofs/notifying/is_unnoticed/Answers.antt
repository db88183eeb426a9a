use Rattle.tree_model.specs.Changes.{deletion_changes}
use Rattle.entity_model.proofs.TellingLemmas.{none_requested}
use Rattle.create_delete.proofs.notifying.is_unnoticed.Goals as goal

pub returns-clause-told : goal.returns-clause-told
returns-clause-told g c t home going = c.is_unheard.ensures c.if-not-is_unheard.false home going

pub returns-clause-sent : goal.returns-clause-sent
returns-clause-sent g c t home =
    let nodes = g.T.Tree.nodes c.args.tree.now in
    none_requested home nodes (deletion_changes nodes c.args.target) (c.announces_below.ensures.none c.if-announces_below.false home)
