use Rattle.std.proofs.Common.{ap}
use Rattle.accepted_requests.specs.Entries.{LaterEntryData}
use Rattle.accepted_requests.proofs.entry.LaterEntry.originator.Goals as goal

pub returns-clause-value : goal.returns-clause-value
returns-clause-value c = ap (λ (e : LaterEntryData). e.originator) c.self.view_is

pub returns-clause-utf8 : goal.returns-clause-utf8
returns-clause-utf8 c = c.self.invariant.originator_text
