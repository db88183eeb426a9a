use Rattle.std.proofs.Common.{◌≡◌, ap, ◌∙◌, filter, rules}
use Rattle.std.proofs.lemmas.Fn.{filter_same}
use Rattle.subscription_match.specs.Notices.{is_modified}
use Rattle.subscription_match.proofs.TellingLemmas.{modified_in_order}
use Rattle.subscription_match.proofs.telling.modified.Goals as goal

pub of-requires : goal.of-requires
of-requires c =
    let kept : c.retain.new.self.items ≡ filter (is_modified c.args.named.now) c.args.attrs =
    filter_same _ (is_modified c.args.named.now) _ (λ x b f' k. search rules) _ _ c.retain.ensures.filtered
    ∙ ap (filter (is_modified c.args.named.now)) c.into_vec-rows.ensures.entries in
    modified_in_order c.args.named.now c.args.attrs c.retain.new.self.items c.into_vec-rows.ensures.order kept

pub returns : goal.returns
returns c =
    let kept : c.retain.new.self.items ≡ filter (is_modified c.args.named.now) c.args.attrs =
    filter_same _ (is_modified c.args.named.now) _ (λ x b f' k. search rules) _ _ c.retain.ensures.filtered
    ∙ ap (filter (is_modified c.args.named.now)) c.into_vec-rows.ensures.entries in
    c.of.ensures ∙ kept
