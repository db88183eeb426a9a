use Rattle.std.specs.Prelude.{nat_lt}
use Rattle.std.proofs.Common.{ℕ, ap}
use Rattle.accepted_requests.proofs.entry.LaterEntry.stands.Goals as goal

pub returns : goal.returns
returns c = ap (λ (at : ℕ). nat_lt c.args.moment at) c.due.ensures.value
