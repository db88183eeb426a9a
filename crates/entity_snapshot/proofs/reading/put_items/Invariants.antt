use Rattle.entity_snapshot.proofs.ItemsLemmas.{HasPutBack}
use Rattle.entity_snapshot.proofs.reading.put_items.Given as goal

-- so many items are put
abbrev pub invariant-loop-done : goal.invariant-loop-done
invariant-loop-done l = HasPutBack l.text l.from l.done l.at l.most l.last l.behind l.outbox
