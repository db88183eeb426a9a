use Rattle.std.proofs.Common.{sym, ◌∙◌}
use Rattle.tree_model.specs.Tree.{is_under}
use Rattle.tree_model.proofs.OrderLemmas.{placed_found, some_stands, some_under}
use Rattle.tree_model.proofs.placed.child_at.Goals as goal

pub returns : goal.returns
returns g c =
    let nodes = g.T.Tree.nodes c.args.tree.now in
    let value = c.get.ensures.value ∙ placed_found (is_under c.args.parent) nodes c.args.k c.in_ok-number.number c.get.ensures.tree (sym c.in_ok-number.was ∙ c.kid.ensures.value) in
    record {
      value = value;
      stands = some_stands (is_under c.args.parent) nodes c.args.k c.get.result c.get.ensures.tree value;
      under = some_under c.args.parent nodes c.args.k c.get.result value;
      tree = c.get.ensures.tree;
    }
