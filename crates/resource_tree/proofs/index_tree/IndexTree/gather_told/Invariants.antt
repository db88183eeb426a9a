use Rattle.resource_tree.proofs.OverdueLemmas.{GathersUntil}
use Rattle.resource_tree.proofs.index_tree.IndexTree.gather_told.Given as goal

-- what the entries so far tell was gathered
abbrev pub invariant-loop-entry : goal.invariant-loop-entry
invariant-loop-entry l = GathersUntil l.moment l.dues.moments.keys l.entries l.self l.numbers.items
