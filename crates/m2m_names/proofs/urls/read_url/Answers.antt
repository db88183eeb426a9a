use Rattle.std.proofs.Common.{◌∙◌, sym}
use Rattle.std.proofs.lemmas.Option.{none-some, same_Some}
use Rattle.m2m_names.proofs.UrlLemmas.{url_found, url_only, url_within}
use Rattle.m2m_names.proofs.urls.read_url.Goals as goal

pub returns-in_err-host_end-clause-only : goal.returns-in_err-host_end-clause-only
returns-in_err-host_end-clause-only c place is =
    absurd (none-some place (sym c.in_err-host_end.was ∙ c.host_end.ensures ∙ url_only c.args.text.now place is))

pub returns-in_err-host_end-clause-none : goal.returns-in_err-host_end-clause-none
returns-in_err-host_end-clause-none c =
    rw c.from_residual.ensures
    (λ place is. none-some place (sym c.in_err-host_end.was ∙ c.host_end.ensures ∙ url_only c.args.text.now place is))

pub returns-clause-found : goal.returns-clause-found
returns-clause-found c = url_found c.args.text.now c.in_ok-host_end.host_end (sym c.host_end.ensures ∙ c.in_ok-host_end.was)

pub returns-clause-only : goal.returns-clause-only
returns-clause-only c place is =
    same_Some _ place (sym c.in_ok-host_end.was ∙ c.host_end.ensures ∙ url_only c.args.text.now place is)

pub returns-clause-within : goal.returns-clause-within
returns-clause-within c =
    let place = c.in_ok-host_end.host_end in
    url_within c.args.text.now place (url_found c.args.text.now place (sym c.host_end.ensures ∙ c.in_ok-host_end.was))
