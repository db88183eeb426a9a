use Rattle.std.proofs.Common.{sym, ap, ◌∙◌, is_some}
use Rattle.tree_model.specs.Tree.{is_cse}
use Rattle.tree_model.proofs.FoundLemmas.{any_found}
use Rattle.tree_model.proofs.conditions.has_cse.Goals as goal

pub returns : goal.returns
returns g c = c.is_some.ensures ∙ ap is_some c.cse.ensures ∙ sym (any_found (is_cse c.args.csi.now) (g.T.Tree.nodes c.args.tree.now))
