use Rattle.std.proofs.Common.{sym}
use Rattle.retrieve_discover.proofs.PathLemmas.{found_itself}
use Rattle.retrieve_discover.proofs.retrieving.retrieve.Goals as goal

pub retrieve_of-requires-clause-target : goal.retrieve_of-requires-clause-target
retrieve_of-requires-clause-target g c = found_itself (g.T.Tree.nodes c.args.tree.now) c.args.target c.in-Some.resource.now (sym c.in-Some.ensures.value)
