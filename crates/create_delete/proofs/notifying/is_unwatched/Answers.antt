use Rattle.std.proofs.Common.{sym, ◌∙◌}
use Rattle.tree_model.specs.Tree.{subs_of}
use Rattle.tree_model.proofs.ChildLemmas.{none_first}
use Rattle.create_delete.proofs.notifying.is_unwatched.Goals as goal

pub returns-in-None : goal.returns-in-None
returns-in-None g c t = none_first (subs_of c.args.number (g.T.Tree.nodes c.args.tree.now)) (sym c.in-None.is ∙ c.sub.ensures.value)
