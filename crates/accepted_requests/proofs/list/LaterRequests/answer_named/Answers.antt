use Rattle.std.proofs.Common.{Option, refl, sym, subst, ◌∙◌}
use Rattle.accepted_requests.specs.Effects.{GivesLater, LaterEffect}
use Rattle.accepted_requests.proofs.EffectLemmas.{names_effect, names_nothing}
use Rattle.accepted_requests.proofs.list.LaterRequests.answer_named.Goals as goal

pub returns-in_err-number : goal.returns-in_err-number
returns-in_err-number c =
    rw c.from_residual.ensures (λ home who is.
    rw (sym (names_nothing home who c.args.self.now c.args.request.now (sym is.number ∙ c.in_err-number.was))) refl)

pub returns : goal.returns
returns c = λ home who is.
    let old = c.args.self.now in
    let given = c.answer_numbered in
    subst (λ (x : Option LaterEffect). GivesLater given.result old given.new.self x)
    (names_effect home who old c.args.request.now c.args.asked.is_own c.in_ok-number.number is.own (sym is.number ∙ c.in_ok-number.was)) given.ensures
