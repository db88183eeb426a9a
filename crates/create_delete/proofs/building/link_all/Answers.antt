use Rattle.create_delete.proofs.RowLemmas.{linked_in_turn}
use Rattle.create_delete.proofs.building.link_all.Goals as goal

pub returns : goal.returns
returns c e es are live = linked_in_turn e es c.args.links c.args.attrs.now _ _ are live c.in_ok-link.ensures c.in_ok-link-2.ensures
