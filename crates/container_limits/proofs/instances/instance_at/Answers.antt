use Rattle.std.proofs.Common.{sym, ◌∙◌}
use Rattle.m2m_names.specs.declared.types.Ty.TheVariants.{ContentInstance}
use Rattle.tree_model.specs.Tree.{is_kin}
use Rattle.tree_model.proofs.OrderLemmas.{placed_found}
use Rattle.container_limits.proofs.instances.instance_at.Goals as goal

pub returns : goal.returns
returns g c =
    let nodes = g.T.Tree.nodes c.args.tree.now in
    let found = sym c.in_ok-number.was ∙ c.nth_instance.ensures.value in
    c.get.ensures.value ∙ placed_found (is_kin ContentInstance c.args.container) nodes c.args.k c.in_ok-number.number c.nth_instance.ensures.tree found
