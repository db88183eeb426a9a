use Rattle.std.proofs.Common.{ℕ}
use Rattle.std.specs.Option.{option_and_then}
use Rattle.accepted_requests.specs.Entries.{numbered}
use Rattle.accepted_requests.proofs.AskedLemmas.{none_said, owned_as}
use Rattle.accepted_requests.proofs.asked.owns.Goals as goal

pub returns-in-Some : goal.returns-in-Some
returns-in-Some c = λ who said.
    let found = option_and_then (λ (n : ℕ). numbered n c.args.requests.now) c.args.number in
    owned_as c.args.home.now found c.in-Some.originator.now who c.owns_as.result c.owns_as.ensures (rw c.in-Some.is at said)

pub returns-in-None : goal.returns-in-None
returns-in-None c = λ who said. none_said _ who (rw c.in-None.is at said)
