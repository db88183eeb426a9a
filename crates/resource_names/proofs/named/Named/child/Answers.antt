use Rattle.resource_names.proofs.NameLemmas.{child_in_table, child_told}
use Rattle.resource_names.proofs.named.Named.child.Goals as goal

pub returns-in-Some : goal.returns-in-Some
returns-in-Some c = child_told c.args.list.now c.requires.tree c.args.self.now c.requires.named c.args.parent c.args.name.now c.number_told.result c.checked_child.result c.in-Some.number c.number_told.ensures c.checked_child.ensures c.in-Some.is

pub returns-in-None : goal.returns-in-None
returns-in-None c = child_in_table c.args.list.now c.requires.tree c.args.self.now c.requires.named c.args.parent c.args.name.now c.number_told.result c.checked_child.result c.find_child.result c.checked_child-in-None.result c.number_told.ensures c.checked_child.ensures c.in-None.is c.find_child.ensures c.checked_child-in-None.ensures
