use Rattle.std.proofs.Common.{refl, inl, inr}
use denote.Exit.{yes}
use denote.Param.{param}
use denote.Param.Send.{arg_send, param_send}
use Rattle.kept_object.specs.contracts.object.KeptObject as kept
use Rattle.journaled_cli.proofs.KeptSent.{kept_send}
use Rattle.journaled_cli.proofs.ServedLemmas.{kept_status}
use Rattle.journaled_cli.proofs.serve.serve_kept.Goals as goal

-- its connections were served
pub returns-in-Some : goal.returns-in-Some
returns-in-Some g c =
    let served = c.in-Some.ensures.served in
    inl (served.0.served, kept_status served.0.served.left c.in-Some.left c.in-Some.status c.status_of.result served.0.left_is c.status_of.ensures served.1)

-- memory ran out before
pub returns-in-None : goal.returns-in-None
returns-in-None g c = inr (record { status_is = inl refl; same = c.serve_at_desk.ensures.starved c.in-None.is })

-- the object goes from thread to thread, as an argument that stands for a parameter
pub serve_at_desk-requires-send-O : goal.serve_at_desk-requires-send-O
serve_at_desk-requires-send-O g c κs within =
    param_send _ _ (arg_send _ yes (kept.the_row (param 1 g.row.K) (param 2 g.row.F) g.F.KeptFile)
    (kept_send (param 1 g.row.K) (param 2 g.row.F) g.F.KeptFile c.type_bounds.send-K c.type_bounds.send-F))
