use Rattle.std.proofs.Common.{List, ap, ◌∙◌}
use Rattle.accepted_requests.specs.Entries.{LaterEntryData, LaterRequestsData, without}
use Rattle.accepted_requests.proofs.list.LaterRequests.remove.Goals as goal

pub returns : goal.returns
returns c =
    let left : List LaterEntryData → LaterRequestsData = λ entries. record { entries = entries; given = c.self.inside.given } in
    ap left c.take_out.ensures ∙ ap (without c.args.number) c.self.view_is
