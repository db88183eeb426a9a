use Rattle.entity_snapshot.proofs.ResourcesLemmas.{none_found}
use Rattle.entity_snapshot.proofs.reading.put_first.Goals as goal

pub returns-in_default-clause-none : goal.returns-in_default-clause-none
returns-in_default-clause-none g c = none_found c.args.text.now (g.T.Tree.nodes c.args.tree.now) c.in_ok-found.found c.in_default.not-Some c.in_ok-found.ensures.resource
