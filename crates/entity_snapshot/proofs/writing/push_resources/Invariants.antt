use Rattle.entity_lines.specs.Resources.{SpellsResource, resource_line}
use Rattle.entity_snapshot.proofs.WrittenLemmas.{HasPushed}
use Rattle.entity_snapshot.proofs.writing.push_resources.Given as goal

abbrev pub invariant-loop-resource : goal.invariant-loop-resource
invariant-loop-resource g l = HasPushed resource_line SpellsResource (g.T.Tree.nodes l.tree) l.resource-iterator l.fn.text.items l.text.items
