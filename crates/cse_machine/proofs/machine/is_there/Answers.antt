use Rattle.std.proofs.Common.{sym}
use Rattle.tree_model.proofs.TreeLemmas.{at_has, has_from_at}
use Rattle.cse_machine.proofs.machine.is_there.Goals as goal

-- what is found is there
pub returns-in-Some : goal.returns-in-Some
returns-in-Some g c = sym (at_has c.args.number c.args.entity.now.nodes _ (sym c.in-Some.ensures.value))

-- and what isn't found isn't
pub returns-in-None : goal.returns-in-None
returns-in-None g c = sym (has_from_at c.args.number c.args.entity.now.nodes (sym c.in-None.ensures.value))
