use Rattle.std.proofs.Common.{◌∙◌}
use Rattle.retrieve_discover.proofs.PathLemmas.{path_down}
use Rattle.retrieve_discover.proofs.finding.add_found.Goals as goal

pub address-requires-clause-path : goal.address-requires-clause-path
address-requires-clause-path g c = c.deref.ensures.value ∙ path_down (g.T.Tree.nodes c.args.wanted.now.tree.now) c.args.child.now c.args.path.now.items c.go_down.new.path.items c.requires.tree c.requires.child c.requires.parent c.requires.path c.in_ok-go_down.ensures.path
