use Rattle.std.proofs.Common.{◌≡◌, List, OnOk, ap, subst, ◌∙◌, rules}
use Rattle.m2m_names.specs.declared.attributes.Attr.TheVariants.{Csi, Cst, Srt, Ty as TyAttr}
use Rattle.m2m_value.specs.Data.{Data, text, number}
use Rattle.resource_model.specs.Attributes.{Row, with_value}
use Rattle.tree_model.specs.Shown.{own_cse_id, shown_ty, shown_types}
use Rattle.tree_model.proofs.RowLemmas.{base_in_order}
use Rattle.tree_model.proofs.showing.add_to_base.Goals as goal

pub returns : goal.returns
returns g c =
    let home = c.args.home.now in
    let csi : c.of_text.result ≡ text (own_cse_id home) = c.of_text.ensures ∙ ap text c.in_ok-own_cse_id.ensures.value in
    let cst : c.of_num.result ≡ number home.cst = search rules in
    let first : c.set.new.self ≡ with_value Csi (text (own_cse_id home)) c.args.attrs.now = c.in_ok-set.ensures.ok ∙ ap (λ (d : Data). with_value Csi d c.args.attrs.now) csi in
    let second : c.set-2.new.self ≡ with_value Cst (number home.cst) c.set.new.self = c.in_ok-set-2.ensures.ok ∙ ap (λ (d : Data). with_value Cst d c.set.new.self) cst in
    let third = c.in_ok-add_before_type.ensures in
    let fourth : c.set-3.new.self ≡ with_value Srt shown_types c.add_before_type.new.attrs = c.in_ok-set-3.ensures.ok ∙ ap (λ (d : Data). with_value Srt d c.add_before_type.new.attrs) c.in_ok-shown_types.ensures in
    let whole = base_in_order home (g.T.Tree.nodes c.args.tree.now) c.args.base.now c.args.attrs.now _ _ _ _ first second third fourth in
    let ty : c.shown_ty.result ≡ shown_ty c.args.base.now.ty = c.shown_ty.ensures ∙ ap shown_ty c.ty.ensures in
    let last = ap (λ (d : Data). with_value TyAttr d c.set-3.new.self) ty in
    subst (λ (rows : List Row). OnOk c.set-4.result (c.set-4.new.self ≡ rows)) (last ∙ whole) c.set-4.ensures.ok
