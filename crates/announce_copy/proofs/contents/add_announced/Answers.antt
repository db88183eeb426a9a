use Rattle.std.proofs.Common.{◌≡◌, List, [], drop, ap, sym, ◌∙◌, arith}
use Rattle.std.proofs.lemmas.List.{drop_all}
use Rattle.std.specs.List.{filter_map}
use Rattle.m2m_names.specs.declared.attributes.Attr.{Attr}
use Rattle.tree_model.specs.Shown.{with_rows}
use Rattle.announce_copy.specs.Announced.{announceable_attrs, announced_row}
use Rattle.announce_copy.proofs.contents.add_announced.Goals as goal

pub returns : goal.returns
returns c =
    let r = c.args.resource.now in
    let all : List Attr = c.announceable-all.result.now in
    let is : all ≡ announceable_attrs r.ty = c.announceable-all.ensures ∙ ap announceable_attrs c.ty.ensures in
    let done : drop c.loop-attr.attr-index all ≡ [] = drop_all c.loop-attr.attr-index all (omega (arith, c.loop-attr-test.false)) in
    ap (λ (attrs : List Attr). with_rows (filter_map (announced_row r) attrs) c.loop-attr.attrs) (sym done)
    ∙ c.loop-attr.invariant
    ∙ ap (λ (attrs : List Attr). with_rows (filter_map (announced_row r) attrs) c.args.attrs.now) is
