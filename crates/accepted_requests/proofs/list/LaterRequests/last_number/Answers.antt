use Rattle.std.proofs.Common.{ap}
use Rattle.accepted_requests.specs.Entries.{LaterRequestsData}
use Rattle.accepted_requests.proofs.list.LaterRequests.last_number.Goals as goal

pub returns : goal.returns
returns c = ap (λ (r : LaterRequestsData). r.given) c.self.view_is
