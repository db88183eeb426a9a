use Rattle.std.proofs.Common.{◌<◌, arith, sym, ◌∙◌}
use Rattle.m2m_names.specs.declared.types.Ty.TheVariants.{Subscription}
use Rattle.tree_model.specs.Tree.{is_kin}
use Rattle.tree_model.proofs.OrderLemmas.{placed_found, some_stands}
use Rattle.tree_model.proofs.WalkLemmas.{place_below, where_some}
use Rattle.tree_model.proofs.placed.subscription_at.Goals as goal

pub returns : goal.returns
returns g c =
    let nodes = g.T.Tree.nodes c.args.tree.now in
    let found = sym c.in_ok-number.was ∙ c.sub.ensures.value in
    let value = c.get.ensures.value ∙ placed_found (is_kin Subscription c.args.parent) nodes c.args.k c.in_ok-number.number c.get.ensures.tree found in
    let below : c.args.k < c.in_ok-number.number = place_below (is_kin Subscription c.args.parent) nodes c.args.k c.in_ok-number.number c.get.ensures.tree found in
    record {
      value = value;
      stands = some_stands (is_kin Subscription c.args.parent) nodes c.args.k c.get.result c.get.ensures.tree value;
      few = where_some c.get.result (omega arith);
      tree = c.get.ensures.tree;
    }
