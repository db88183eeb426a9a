use Rattle.std.proofs.Common.{◌≡◌, ◌+◌, ◌∷◌, [], List, ◌++◌, drop, sym, ap, ◌∙◌, subst, arith, append-nil}
use Rattle.std.proofs.lemmas.List.{drop_all, drop_more}
use Rattle.std.specs.List.{filter_map}
use Rattle.m2m_value.specs.Data.{Entry}
use Rattle.m2m_value.specs.Node.{AreSorted}
use Rattle.resource_model.specs.Attributes.{Row, AreInOrder}
use Rattle.attribute_rules.specs.Contents.{kept_row}
use Rattle.attribute_rules.proofs.ContentsLemmas.{kept_attr, rows_in_order, joined}
use Rattle.attribute_rules.proofs.contents.kept_attrs.Goals as goal

pub loop-key-preserved : goal.loop-key-preserved
loop-key-preserved c =
    let l = c.loop-key in
    let items : List Entry = c.entries-key-items.result.now in
    let e : Entry = c.loop-key-item.result in
    let rest : List Entry = drop (l.key-index + 1) items in
    let split : drop l.key-index items ≡ e ∷ rest =
    drop_more items l.key-index e (omega (arith, c.loop-key-test.true))
    ∙ ap (λ (x : Entry). x ∷ rest) (sym c.loop-key-item.is) in
    ap (λ (rows : List Row). rows ++ filter_map kept_row rest) c.in_ok-copy_kept.ensures
    ∙ joined l.rows.items (kept_row e) (filter_map kept_row rest)
    ∙ ap (λ (es : List Entry). l.rows.items ++ filter_map kept_row es) (sym split) ∙ l.invariant

pub of-requires : goal.of-requires
of-requires c =
    let l = c.loop-key in
    let items : List Entry = c.entries-key-items.result.now in
    let none : drop l.key-index items ≡ [] = drop_all l.key-index items (omega (arith, c.loop-key-test.false)) in
    let is : l.rows.items ≡ filter_map kept_row items =
    sym (append-nil l.rows.items) ∙ ap (λ (es : List Entry). l.rows.items ++ filter_map kept_row es) (sym none) ∙ l.invariant in
    let sorted : AreSorted items = subst AreSorted (sym c.entries-key-items.ensures.all) c.entries-key-items.ensures.sorted in
    subst AreInOrder (sym is) (rows_in_order kept_row kept_attr items sorted)
