use Rattle.std.proofs.Common.{refl, inl, inr}
use denote.Exit.{yes}
use denote.Param.{param}
use denote.Param.Send.{arg_send, param_send}
use Rattle.journaled_cli.specs.contracts.observed.ObservedKept as observed
use Rattle.resource_tree.specs.contracts.index_tree.IndexTree as index_tree
use Rattle.resource_tree.specs.contracts.index_tree.IndexTreeTree.TheImpl as index_tree_impl
use Rattle.journaled_cli.proofs.KeptSent.{observed_send}
use Rattle.journaled_cli.proofs.command.run_later.Goals as goal

-- it was opened
pub returns-in-Ok : goal.returns-in-Ok
returns-in-Ok g c = record {
  runs = inl (c.in-Ok.object, c.in-Ok.ensures.opens, rw (← c.observe_runs-kept.ensures) c.do_task-status.ensures, refl);
}

-- the file was refused
pub returns-in-Err : goal.returns-in-Err
returns-in-Err g c = record {
  runs = inr (record {
    fault = c.in-Err.unopened.fault;
    left = c.in-Err.unopened.file;
    refused = c.in-Err.ensures.refused;
    back_is = refl;
    stays = c.in-Err.ensures.stays;
    status_is = c.refuse-status.ensures;
    same = refl;
  });
}

-- what is kept goes from thread to thread, as an argument that stands for a parameter
pub do_task-status-requires-send-K : goal.do_task-status-requires-send-K
do_task-status-requires-send-K g c κs within =
    param_send _ _ (arg_send _ yes (observed.the_row index_tree.the_row (param 7 g.row.W) index_tree_impl.ghosts)
    (observed_send (param 7 g.row.W) c.type_bounds.send-W))
