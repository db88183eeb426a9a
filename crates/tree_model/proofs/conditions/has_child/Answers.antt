use Rattle.std.proofs.Common.{sym, ap, ◌∙◌, is_some}
use Rattle.tree_model.specs.Tree.{is_child}
use Rattle.tree_model.proofs.FoundLemmas.{any_found}
use Rattle.tree_model.proofs.conditions.has_child.Goals as goal

pub returns : goal.returns
returns g c = c.is_some.ensures ∙ ap is_some c.child_named.ensures ∙ sym (any_found (is_child c.args.parent c.args.name.now) (g.T.Tree.nodes c.args.tree.now))
