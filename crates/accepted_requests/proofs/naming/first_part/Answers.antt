use Rattle.std.proofs.Common.{ℕ, List}
use Rattle.addressing.proofs.ReadLemmas.{parts_cut}
use Rattle.accepted_requests.proofs.naming.first_part.Goals as goal

pub returns-in-Some : goal.returns-in-Some
returns-in-Some c =
    let cut : List ℕ × List ℕ = (c.in-Some.front.now, c.in-Some.behind.now) in
    parts_cut c.args.text.now cut c.in-Some.ensures
