use Rattle.std.proofs.Common.{◌≡◌, length, ap, arith, ◌∙◌}
use Rattle.accepted_requests.specs.Entries.{LaterRequestsData}
use Rattle.accepted_requests.proofs.list.LaterRequests.len.Goals as goal

pub returns : goal.returns
returns c =
    let many : c.len.result ≡ length c.self.inside.entries.items = omega (arith, c.len.ensures, c.self.inside.entries.ok.0) in
    many ∙ ap (λ (r : LaterRequestsData). length r.entries) c.self.view_is
