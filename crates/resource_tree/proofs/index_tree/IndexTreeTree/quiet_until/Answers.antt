use Rattle.resource_tree.proofs.RemovalLemmas.{quiet_from_zero}
use Rattle.resource_tree.proofs.index_tree.IndexTreeTree.quiet_until.Goals as goal

pub returns-else-self : goal.returns-else-self
returns-else-self c = quiet_from_zero c.args.self.now c.args.self.now
