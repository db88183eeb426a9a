use Rattle.std.proofs.Common.{IfSome, sym, ap, ◌∙◌, subst}
use Rattle.filter_criteria.specs.Filters.{IsSoundFilter}
use Rattle.primitive_json.specs.declared.request.RequestParts.{RequestParts}
use Rattle.journal_lines.specs.Keeping.{can_be_kept}
use Rattle.later_lines.proofs.KindLemmas.{request_kinds}
use Rattle.later_lines.proofs.keeping.is_request_kept.Goals as goal

pub returns-clause-kinds : goal.returns-clause-kinds
returns-clause-kinds c = λ is.
    let can = sym (c.can_be_kept.ensures ∙ ap can_be_kept c.in_ok-plain.ensures) ∙ c.if-not-can_be_kept.false in
    let sound = subst (λ (r : RequestParts). IfSome r.fc IsSoundFilter) c.parts.ensures.same c.filter_is_sound.ensures in
    request_kinds c.args.request.now sound (sym c.has_form.ensures ∙ c.if-not-has_form.false) can
