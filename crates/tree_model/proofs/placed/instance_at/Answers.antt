use Rattle.std.proofs.Common.{◌<◌, arith, sym, ◌∙◌}
use Rattle.m2m_names.specs.declared.types.Ty.TheVariants.{ContentInstance}
use Rattle.tree_model.specs.Tree.{is_kin}
use Rattle.tree_model.proofs.OrderLemmas.{placed_found}
use Rattle.tree_model.proofs.WalkLemmas.{place_below, where_some}
use Rattle.tree_model.proofs.placed.instance_at.Goals as goal

pub returns : goal.returns
returns g c =
    let nodes = g.T.Tree.nodes c.args.tree.now in
    let found = sym c.in_ok-number.was ∙ c.nth_instance.ensures.value in
    let below : c.args.k < c.in_ok-number.number = place_below (is_kin ContentInstance c.args.container) nodes c.args.k c.in_ok-number.number c.nth_instance.ensures.tree found in
    record {
      value = c.get.ensures.value ∙ placed_found (is_kin ContentInstance c.args.container) nodes c.args.k c.in_ok-number.number c.nth_instance.ensures.tree found;
      few = where_some c.get.result (omega arith);
    }
