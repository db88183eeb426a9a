use Rattle.journaled_server.proofs.PlainLemmas.{grew_below}
use Rattle.journaled_server.proofs.serving.KeptAttendantServiceBench.attend.Goals as goal

pub returns-clause-grew : goal.returns-clause-grew
returns-clause-grew g c =
    let asked = c.attend.ensures.talks.1.asks in
    grew_below g.K.Desk.grown _ _ asked.grew.more asked.grew.grew

pub returns-clause-attends : goal.returns-clause-attends
returns-clause-attends g c =
    let told = c.attend.ensures.talks in
    record { asked = told.0; asks = told.1; talked = told.2 }
