use Rattle.std.proofs.Common.{refl, inl, inr}
use denote.Param.Send.{sendable}
use Rattle.journaled_cli.proofs.KeptSent.{journaled_send}
use Rattle.journaled_cli.proofs.command.run_plain.Goals as goal

-- it was opened
pub returns-in-Ok : goal.returns-in-Ok
returns-in-Ok g c = record {
  runs = inl (c.in-Ok.object, c.in-Ok.ensures.opens, c.do_task-status.ensures, refl);
}

-- the file was refused
pub returns-in-Err : goal.returns-in-Err
returns-in-Err g c = record {
  runs = inr (record {
    fault = c.in-Err.unopened.fault;
    left = c.in-Err.unopened.file;
    refused = c.in-Err.ensures.refused;
    back_is = refl;
    stays = c.in-Err.ensures.stays;
    status_is = c.refuse-status.ensures;
    same = refl;
  });
}

-- an entity that is kept goes from thread to thread
pub do_task-status-requires-send-K : goal.do_task-status-requires-send-K
do_task-status-requires-send-K g c κs within = search (sendable, journaled_send)
