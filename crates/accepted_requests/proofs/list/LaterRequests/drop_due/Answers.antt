use Rattle.std.proofs.Common.{List, ap, ◌∙◌}
use Rattle.accepted_requests.specs.Entries.{LaterEntryData, LaterRequestsData, still_standing}
use Rattle.accepted_requests.proofs.list.LaterRequests.drop_due.Goals as goal

pub returns : goal.returns
returns c =
    let left : List LaterEntryData → LaterRequestsData = λ entries. record { entries = entries; given = c.self.inside.given } in
    ap left c.keep_standing.ensures ∙ ap (still_standing c.args.moment) c.self.view_is
