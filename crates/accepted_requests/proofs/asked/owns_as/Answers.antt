use Rattle.std.proofs.Common.{ℕ, List, Option, ap, ◌∙◌}
use Rattle.policy_eval.specs.Originators.{is_same}
use Rattle.accepted_requests.specs.Entries.{LaterEntryData}
use Rattle.accepted_requests.proofs.AskedLemmas.{owned_by}
use Rattle.accepted_requests.proofs.asked.owns_as.Goals as goal

pub returns-in-Some : goal.returns-in-Some
returns-in-Some c =
    let home = c.args.home.now in
    let who = c.args.originator.now in
    c.is_same.ensures ∙ ap (λ (o : List ℕ). is_same home o who) (c.entries.ensures ∙ c.originator.ensures.value)
    ∙ ap (λ (found : Option LaterEntryData). owned_by home found who) c.in-Some.ensures

pub returns-in-None : goal.returns-in-None
returns-in-None c = ap (λ (found : Option LaterEntryData). owned_by c.args.home.now found c.args.originator.now) c.in-None.ensures
