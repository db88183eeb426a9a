use Rattle.std.proofs.Common.{refl, inl, inr}
use Rattle.journaled_cli.proofs.ServedLemmas.{leaves_served}
use Rattle.journaled_cli.proofs.serve.serve_at_desk.Goals as goal

-- the door gave no more connections
pub returns-in-Ok-serve_journaled-clause-served : goal.returns-in-Ok-serve_journaled-clause-served
returns-in-Ok-serve_journaled-clause-served g c =
    let ends = c.in-Ok-serve_journaled.ensures.ends in
    (leaves_served c.close.result ends.back c.in-Ok-new.ensures.first ends.gains c.close.ensures.left c.close.ensures.all, inl refl)

-- it failed
pub returns-in-Err-default-default-DoorFault-clause-served : goal.returns-in-Err-default-default-DoorFault-clause-served
returns-in-Err-default-default-DoorFault-clause-served g c =
    let fault = c.in-Err-default-default-DoorFault in
    let close = c.close-in-Err-default-default-DoorFault in
    let ends = fault.ensures.ends in
    let is = fault.field-0-2-is in
    (leaves_served close.result (ends.back_at_fault is) c.in-Ok-new.ensures.first (ends.gains_at_fault is) close.ensures.left close.ensures.all, inr refl)
