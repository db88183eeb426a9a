use Rattle.std.proofs.Common.{◌≡◌, ap, ◌∙◌, filter, rules}
use Rattle.std.proofs.lemmas.Fn.{filter_same}
use Rattle.create_delete.specs.Changing.{is_told}
use Rattle.create_delete.proofs.RowLemmas.{told_in_order}
use Rattle.create_delete.proofs.telling.told_attrs.Goals as goal

pub of-requires : goal.of-requires
of-requires c =
    let kept : c.retain.new.self.items ≡ filter (is_told c.args.members.now) c.args.attrs =
    filter_same _ (is_told c.args.members.now) _ (λ x b f' k. search rules) _ _ c.retain.ensures.filtered
    ∙ ap (filter (is_told c.args.members.now)) c.into_vec-rows.ensures.entries in
    told_in_order c.args.members.now c.args.attrs c.retain.new.self.items c.into_vec-rows.ensures.order kept

pub returns : goal.returns
returns c =
    let kept : c.retain.new.self.items ≡ filter (is_told c.args.members.now) c.args.attrs =
    filter_same _ (is_told c.args.members.now) _ (λ x b f' k. search rules) _ _ c.retain.ensures.filtered
    ∙ ap (filter (is_told c.args.members.now)) c.into_vec-rows.ensures.entries in
    c.of.ensures ∙ kept
