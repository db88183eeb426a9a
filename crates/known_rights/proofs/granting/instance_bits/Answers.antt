use Rattle.std.proofs.Common.{sym}
use Rattle.known_rights.proofs.KnownLemmas.{at_itself}
use Rattle.known_rights.proofs.granting.instance_bits.Goals as goal

pub container_bits-requires-clause-container : goal.container_bits-requires-clause-container
container_bits-requires-clause-container g c = at_itself _ (g.T.Tree.nodes c.args.tree.now) c.in-Some.container.now (sym c.in-Some.ensures.value)
