use Rattle.std.proofs.Common.{◌≡◌, Some, true, IfSome, subst}
use Rattle.tree_model.specs.Tree.{at, has}
use Rattle.entity_model.specs.Entity.{EntityData}
use Rattle.request_rules.proofs.OrderLemmas.{found_there, found_stands}
use Rattle.request_rules.proofs.asking.find.Goals as goal

pub returns-clause-there : goal.returns-clause-there
returns-clause-there g c =
    subst (λ (e : EntityData). IfSome c.get.result (λ r. has r.now.number e.nodes ≡ true)) c.entity.view_is
    (found_there c.args.number (g.T.Tree.nodes c.entity.inside.tree) c.get.result c.get.ensures.value)

pub returns-clause-stands : goal.returns-clause-stands
returns-clause-stands g c =
    subst (λ (e : EntityData). IfSome c.get.result (λ r. at r.now.number e.nodes ≡ Some r.now)) c.entity.view_is
    (found_stands c.args.number (g.T.Tree.nodes c.entity.inside.tree) c.get.result c.get.ensures.value)
