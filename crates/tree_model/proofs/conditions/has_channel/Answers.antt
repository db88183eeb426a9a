use Rattle.std.proofs.Common.{sym, ap, ◌∙◌, is_some}
use Rattle.tree_model.specs.Tree.{is_channel}
use Rattle.tree_model.proofs.FoundLemmas.{any_found}
use Rattle.tree_model.proofs.conditions.has_channel.Goals as goal

pub returns : goal.returns
returns g c = c.is_some.ensures ∙ ap is_some c.channel.ensures ∙ sym (any_found (is_channel c.args.parent) (g.T.Tree.nodes c.args.tree.now))
