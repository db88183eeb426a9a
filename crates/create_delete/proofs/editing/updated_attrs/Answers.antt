use Rattle.std.proofs.Common.{◌≡◌, ◌∙◌, List, ap}
use Rattle.resource_model.specs.Attributes.{Row}
use Rattle.tree_model.specs.Shown.{with_rows}
use Rattle.attribute_rules.specs.Contents.{edit_in, edited}
use Rattle.attribute_rules.specs.declared.contents.Edit.{Edit}
use Rattle.create_delete.proofs.RowLemmas.{updated_in_turn}
use Rattle.create_delete.proofs.editing.updated_attrs.Goals as goal

pub returns : goal.returns
returns c e by live =
    let r = c.args.update.target.now in
    let es = c.args.update.named.now in
    let first : c.edit.new.attrs ≡ edited (edit_in es) r.attrs =
    c.in_ok-edit.ensures ∙ ap (λ (x : Edit). edited x c.in_ok-attrs.attrs) c.in_ok-edit_in.ensures.value
    ∙ ap (edited (edit_in es)) (c.in_ok-attrs.ensures ∙ c.attrs.ensures) in
    updated_in_turn e es r c.edit.new.attrs c.count_change.new.attrs c.keep_members.new.attrs c.link_all.new.attrs
    first
    c.in_ok-count_change.ensures
    (c.in_ok-keep_members.ensures ∙ ap (λ (rows : List Row). with_rows rows c.count_change.new.attrs) (c.deref.ensures.value ∙ by.members))
    (c.in_ok-link_all.ensures e es by.links live)
