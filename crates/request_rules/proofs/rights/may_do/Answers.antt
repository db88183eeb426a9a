use Rattle.std.proofs.Common.{sym, ap, ◌∙◌}
use Rattle.std.proofs.lemmas.Bool.{both_ways}
use Rattle.tree_model.specs.Tree.{has}
use Rattle.tree_model.proofs.TreeLemmas.{at_number, has_from_at}
use Rattle.request_rules.specs.Rights.{may_do}
use Rattle.request_rules.proofs.rights.may_do.Goals as goal

pub returns-in-Some : goal.returns-in-Some
returns-in-Some g c =
    let e = c.args.entity.now in
    c.may_do_on.ensures
    ∙ ap (may_do c.args.op e c.args.originator.now c.args.request.now)
    (at_number c.args.number e.nodes c.in-Some.resource.now (sym c.in-Some.ensures.value))

-- what isn't found isn't there
pub returns-in-None : goal.returns-in-None
returns-in-None g c =
    absurd (both_ways (has c.args.number c.args.entity.now.nodes) (has_from_at c.args.number c.args.entity.now.nodes (sym c.in-None.ensures.value)) c.requires.resource)
