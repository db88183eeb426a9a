use Rattle.std.proofs.Common.{sym}
use Rattle.tree_model.proofs.QuietLemmas.{quiet_live}
use Rattle.entity_model.proofs.sweeping.age.Goals as goal

pub returns-then-moment-quiet-clause-nodes : goal.returns-then-moment-quiet-clause-nodes
returns-then-moment-quiet-clause-nodes g c = sym (quiet_live (g.T.Tree.nodes c.args.tree.now) c.quiet_until-quiet.result c.args.moment c.requires c.quiet_until-quiet.ensures c.if-moment-quiet.true)
