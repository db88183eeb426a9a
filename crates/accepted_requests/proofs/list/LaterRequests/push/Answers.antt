use Rattle.std.proofs.Common.{List, [], ◌∷◌, ◌++◌, ap, ◌∙◌}
use Rattle.accepted_requests.specs.Entries.{LaterEntryData, LaterRequestsData}
use Rattle.accepted_requests.proofs.list.LaterRequests.push.Goals as goal

pub returns-clause-ok : goal.returns-clause-ok
returns-clause-ok c =
    let kept : List LaterEntryData → LaterRequestsData = λ entries. record { entries = entries; given = c.args.number } in
    ap kept c.in_ok-push.ensures.items ∙ ap (λ (r : LaterRequestsData). kept (r.entries ++ c.args.entry ∷ [])) c.self.view_is
