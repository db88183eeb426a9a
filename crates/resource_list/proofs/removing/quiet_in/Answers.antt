use Rattle.std.proofs.Common.{arith}
use Rattle.tree_model.proofs.QuietLemmas.{quiet_turn}
use Rattle.resource_list.proofs.removing.quiet_in.Goals as goal

pub loop-at-preserved : goal.loop-at-preserved
loop-at-preserved c =
    quiet_turn c.args.resources.now c.loop-at.at c.loop-at.quiet c.earlier-quiet.result c.due_near-end.result c.index-resources-at.result (omega (arith, c.loop-at-test.true)) c.index-resources-at.is c.earlier-quiet.ensures c.due_near-end.ensures c.loop-at.invariant
