use Rattle.cse_server.proofs.serving.AttendantServiceBench.attend.Goals as goal

pub returns-clause-grew : goal.returns-clause-grew
returns-clause-grew g c =
    let asked = c.attend.ensures.talks.1.asks in
    (asked.grew.more, asked.grew.grew)

pub returns-clause-attends : goal.returns-clause-attends
returns-clause-attends g c =
    let told = c.attend.ensures.talks in
    record { asked = told.0; asks = told.1; talked = told.2 }
