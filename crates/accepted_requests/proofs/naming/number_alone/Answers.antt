use Rattle.std.proofs.Common.{sym, ap, ◌∙◌}
use Rattle.accepted_requests.specs.Names.{number_named}
use Rattle.accepted_requests.proofs.HereLemmas.{names_more}
use Rattle.accepted_requests.proofs.naming.number_alone.Goals as goal

pub returns-in_default-Some : goal.returns-in_default-Some
returns-in_default-Some c =
    let parts = rw c.in_default-Some.is-1 at c.first_part.ensures in
    names_more c.first_part.result.0.now c.in_default-Some.field-0-1.now ∙ sym (ap number_named parts)
