use Rattle.std.proofs.Common.{◌≡◌, [], List, ◌++◌, drop, sym, ap, ◌∙◌, subst, arith, append-nil}
use Rattle.std.proofs.lemmas.List.{drop_all}
use Rattle.std.specs.List.{filter_map}
use Rattle.m2m_value.specs.Data.{Entry}
use Rattle.m2m_value.specs.Node.{AreSorted}
use Rattle.resource_model.specs.Attributes.{AreInOrder}
use Rattle.attribute_rules.specs.Contents.{set_row}
use Rattle.attribute_rules.proofs.AdmittedLemmas.{sets_expiry}
use Rattle.attribute_rules.proofs.ContentsLemmas.{set_attr, rows_in_order}
use Rattle.attribute_rules.proofs.contents.edit_in.Goals as goal

pub of-requires : goal.of-requires
of-requires c =
    let l = c.loop-key in
    let items : List Entry = c.entries-key-items.result.now in
    let none : drop l.key-index items ≡ [] = drop_all l.key-index items (omega (arith, c.loop-key-test.false)) in
    let is : l.sets.items ≡ filter_map set_row items =
    sym (append-nil l.sets.items) ∙ ap (λ (es : List Entry). l.sets.items ++ filter_map set_row es) (sym none) ∙ l.invariant.sets in
    let sorted : AreSorted items = subst AreSorted (sym c.entries-key-items.ensures.all) c.entries-key-items.ensures.sorted in
    subst AreInOrder (sym is) (rows_in_order set_row set_attr items sorted)

pub returns-clause-expiry : goal.returns-clause-expiry
returns-clause-expiry c =
    let l = c.loop-key in
    let items : List Entry = c.entries-key-items.result.now in
    let none : drop l.key-index items ≡ [] = drop_all l.key-index items (omega (arith, c.loop-key-test.false)) in
    let is : l.sets.items ≡ filter_map set_row items =
    sym (append-nil l.sets.items) ∙ ap (λ (es : List Entry). l.sets.items ++ filter_map set_row es) (sym none) ∙ l.invariant.sets in
    sets_expiry c.args.ty c.args.members.now c.of.result c.requires
    (c.of.ensures ∙ is ∙ ap (filter_map set_row) c.entries-key-items.ensures.all)
