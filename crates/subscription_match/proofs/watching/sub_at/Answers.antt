use Rattle.subscription_match.proofs.WatchingLemmas.{no_place}
use Rattle.subscription_match.proofs.watching.sub_at.Goals as goal

pub returns-in_err-parent-clause-value : goal.returns-in_err-parent-clause-value
returns-in_err-parent-clause-value g c =
    no_place c.from_residual.result c.args.parent (g.T.Tree.nodes c.args.tree.now) c.args.k c.in_err-parent.was c.from_residual.ensures
