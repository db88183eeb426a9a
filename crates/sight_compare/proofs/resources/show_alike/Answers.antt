use Rattle.std.proofs.Common.{rules, ◌≡◌, Bool, true, ◌&&◌, List, ap, sym, ◌∙◌}
use Rattle.std.specs.Cmp.Lexicographic.{pointwise}
use Rattle.std.specs.List.{filter_map}
use Rattle.resource_model.specs.Attributes.{Row, same_row}
use Rattle.sight_compare.specs.Shown.{row_at}
use Rattle.sight_compare.proofs.SeenLemmas.{view_same}
use Rattle.sight_compare.proofs.resources.show_alike.Goals as goal

pub returns : goal.returns
returns g c =
    let time : c.are_one_time.result ≡ true = search rules in
    let rows : c.entries-rows.result.now ≡ c.args.resource.now.attrs = c.entries-rows.ensures.all ∙ c.attrs.ensures in
    let others : c.entries.result.now ≡ c.args.other.now.attrs = c.entries.ensures.all ∙ c.attrs-2.ensures in
    ap (λ (b : Bool). b && c.are_rows_alike.result) (sym time)
    ∙ view_same c.args.left.now.home.now c.args.right.now.home.now (g.T.Tree.nodes c.args.left.now.tree.now) (g.T.Tree.nodes c.args.right.now.tree.now)
    c.args.left.now.originator.now c.args.right.now.originator.now c.args.resource.now c.args.other.now
    c.glance_at-glance.result c.glance_at-beside.result c.glance_at-glance.ensures c.glance_at-beside.ensures
    c.are_one_time.result c.are_rows_alike.result c.are_one_time.ensures
    (c.are_rows_alike.ensures
    ∙ (λ i. pointwise same_row (filter_map (row_at c.glance_at-glance.result) (rows i)) (filter_map (row_at c.glance_at-beside.result) (others i))))
