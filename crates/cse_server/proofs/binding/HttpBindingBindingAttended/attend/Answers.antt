use Rattle.cse_server.proofs.binding.HttpBindingBindingAttended.attend.Goals as goal

pub returns-clause-talks : goal.returns-clause-talks
returns-clause-talks g c =
    let ends = c.serve-ended.ensures in
    (ends.serves.asked, ends.serves.asks, record { talks = ends.serves.talks; reads = ends.reads; writes = ends.writes })
