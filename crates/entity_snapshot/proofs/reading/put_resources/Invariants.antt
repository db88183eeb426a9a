use Rattle.entity_snapshot.specs.Reading.{ReadsResources}
use Rattle.entity_snapshot.proofs.reading.put_resources.Given as goal

-- so many resources are put
abbrev pub invariant-loop-done : goal.invariant-loop-done
invariant-loop-done g l = ReadsResources l.text l.from l.done l.at (g.T.Tree.nodes l.tree)
