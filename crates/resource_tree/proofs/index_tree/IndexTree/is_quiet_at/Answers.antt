use Rattle.std.proofs.Common.{◌≡◌, List, [], subst}
use Rattle.std.proofs.lemmas.Bool.{ltb-true}
use Rattle.resource_model.specs.Resource.{ResourceData}
use Rattle.tree_model.specs.Tree.{live, overdue_numbers}
use Rattle.tree_model.proofs.OverdueLemmas.{none_overdue}
use Rattle.tree_model.proofs.QuietLemmas.{quiet_live}
use Rattle.resource_tree.proofs.index_tree.IndexTree.is_quiet_at.Goals as goal

pub returns-then-self-clause-live : goal.returns-then-self-clause-live
returns-then-self-clause-live c is =
    let nodes = c.self.inside.list in
    let tree = c.self.invariant.tree in
    subst (λ (ns : List ResourceData). live c.args.moment ns ≡ ns) c.self.view_is
    (quiet_live nodes c.quiet.result c.args.moment tree (c.quiet.ensures nodes tree (c.self.invariant.told c.if-self.true)) (ltb-true c.args.moment c.quiet.result is))

pub returns-then-self-clause-none : goal.returns-then-self-clause-none
returns-then-self-clause-none c is =
    let nodes = c.self.inside.list in
    let tree = c.self.invariant.tree in
    subst (λ (ns : List ResourceData). overdue_numbers c.args.moment ns ≡ []) c.self.view_is
    (none_overdue nodes c.args.moment tree c.quiet.result (c.quiet.ensures nodes tree (c.self.invariant.told c.if-self.true)) (ltb-true c.args.moment c.quiet.result is))
