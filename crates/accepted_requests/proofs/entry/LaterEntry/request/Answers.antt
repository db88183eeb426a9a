use Rattle.std.proofs.Common.{ap}
use Rattle.accepted_requests.specs.Entries.{LaterEntryData}
use Rattle.accepted_requests.proofs.entry.LaterEntry.request.Goals as goal

pub returns : goal.returns
returns c = ap (λ (e : LaterEntryData). e.request) c.self.view_is
