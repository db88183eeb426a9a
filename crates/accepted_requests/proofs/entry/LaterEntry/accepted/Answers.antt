use Rattle.std.proofs.Common.{ap}
use Rattle.accepted_requests.specs.Entries.{LaterEntryData}
use Rattle.accepted_requests.proofs.entry.LaterEntry.accepted.Goals as goal

pub returns-clause-value : goal.returns-clause-value
returns-clause-value c = ap (λ (e : LaterEntryData). e.accepted) c.self.view_is

pub returns-clause-moment : goal.returns-clause-moment
returns-clause-moment c = c.self.invariant.accepted_moment
