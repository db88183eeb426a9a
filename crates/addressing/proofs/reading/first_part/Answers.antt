use Rattle.std.proofs.Common.{ℕ, List}
use Rattle.addressing.proofs.ReadLemmas.{parts_cut}
use Rattle.addressing.proofs.reading.first_part.Goals as goal

pub returns-in-Some-clause-parts : goal.returns-in-Some-clause-parts
returns-in-Some-clause-parts c =
    let cut : List ℕ × List ℕ = (c.in-Some.front.now, c.in-Some.behind.now) in
    parts_cut c.args.text.now cut c.in-Some.ensures.parts
