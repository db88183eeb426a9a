use Rattle.std.proofs.Common.{sym, ap, subst}
use Rattle.resource_model.specs.Resource.{ResourceData}
use Rattle.create_delete.specs.Changing.{nodes_updated}
use Rattle.create_delete.specs.NewResource.{IsReplacement}
use Rattle.create_delete.proofs.ReplacementLemmas.{replacement}
use Rattle.create_delete.proofs.updating.prepare.Goals as goal

pub returns-clause-may : goal.returns-clause-may
returns-clause-may g c =
    subst (λ (r : ResourceData). IsReplacement c.args.entity.now r) (sym c.in_ok-resource.ensures)
    (replacement c.args.entity.now c.args.update.named.now c.args.update.target.now c.requires.sound c.requires.allowed)

pub returns-clause-after : goal.returns-clause-after
returns-clause-after g c =
    ap (λ (r : ResourceData). record c.args.entity.now { nodes = nodes_updated c.args.entity.now r }) c.in_ok-resource.ensures
