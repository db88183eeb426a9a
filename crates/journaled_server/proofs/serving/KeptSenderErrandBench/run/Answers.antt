use Rattle.kept_desk.specs.Kept.{KeptGrown}
use Rattle.kept_desk.specs.Joins.{kept_both, kept_nothing}
use Rattle.journaled_server.proofs.SendingLemmas.{sends_grew}
use Rattle.journaled_server.proofs.serving.KeptSenderErrandBench.run.Goals as goal

pub returns-clause-grew : goal.returns-clause-grew
returns-clause-grew g c =
    let grown = g.K.Desk.grown in
    let grew = sends_grew (KeptGrown grown) (kept_nothing grown g.met.K.Desk.grown_by_nothing) (kept_both grown g.met.K.Desk.grown_on)
    c.send_kept.result _ _ c.send_kept.ensures.sends in
    (grew.1.0, grew.1.1)
