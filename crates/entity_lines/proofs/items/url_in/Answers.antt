use Rattle.std.proofs.Common.{◌≡◌, ℕ, List, Some, sym, ◌∙◌, subst}
use Rattle.m2m_names.specs.Urls.{IsUrl}
use Rattle.entity_lines.proofs.items.url_in.Goals as goal

pub returns-in-None-clause-only : goal.returns-in-None-clause-only
returns-in-None-clause-only c = λ url is some.
    let both : Some c.in-Some.url.now ≡ Some url = c.in-Some.ensures.value ∙ is in
    let one : c.in-Some.url.now ≡ url = cc in
    let same : c.entries.result.now ≡ url = c.entries.ensures ∙ one in
    absurd (c.in-None.ensures.none some.0 (subst (λ (t : List ℕ). IsUrl t some.0) (sym same) some.1))
