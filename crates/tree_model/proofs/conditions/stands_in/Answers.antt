use Rattle.std.proofs.Common.{◌∙◌, sym, ap, is_some}
use Rattle.tree_model.proofs.TreeLemmas.{has-at, is_some-now}
use Rattle.tree_model.proofs.conditions.stands_in.Goals as goal

pub returns : goal.returns
returns g c = c.is_some.ensures ∙ sym (is_some-now c.get.result) ∙ ap is_some c.get.ensures.value ∙ has-at c.args.number (g.T.Tree.nodes c.args.tree.now)
