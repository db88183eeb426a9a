use Rattle.std.proofs.Common.{length}
use Rattle.entity_lines.specs.Items.{SpellsItem, item_lines}
use Rattle.entity_snapshot.proofs.WrittenLemmas.{HasNumbered, HasPushed}
use Rattle.entity_snapshot.proofs.writing.push_rest.Given as goal

abbrev pub invariant-items : goal.invariant-items
invariant-items l = record {
  pushed : HasPushed item_lines SpellsItem l.fn.rest.items l.rest.items l.fn.text.items l.text.items;
  numbered : HasNumbered l.fn.rest.items l.rest.items l.number l.most;
}

abbrev pub decreases-items : goal.decreases-items
decreases-items l = length l.rest.items
