use Rattle.std.proofs.Common.{sym, ◌∙◌}
use Rattle.tree_model.specs.Tree.{subs_of}
use Rattle.entity_model.proofs.UnnoticedLemmas.{no_first}
use Rattle.entity_model.proofs.sweeping.is_unwatched.Goals as goal

pub returns-in-None : goal.returns-in-None
returns-in-None g c t = no_first (subs_of c.args.number (g.T.Tree.nodes c.args.tree.now)) (sym c.in-None.is ∙ c.sub.ensures.value)
