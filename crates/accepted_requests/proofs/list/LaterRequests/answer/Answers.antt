use Rattle.std.proofs.Common.{Option, refl, sym, subst, ◌∙◌}
use Rattle.accepted_requests.specs.Effects.{GivesLater, LaterEffect}
use Rattle.accepted_requests.proofs.EffectLemmas.{effect_absent, effect_not_blocking, effect_other, heard_absent, heard_not_blocking}
use Rattle.accepted_requests.proofs.list.LaterRequests.answer.Goals as goal

pub returns-then-is_status : goal.returns-then-is_status
returns-then-is_status c = λ home who asked.
    let old = c.args.self.now in
    let is = sym c.is_status.ensures ∙ c.if-is_status.true in
    let given = c.take_up in
    subst (λ (x : Option LaterEffect). GivesLater given.result old given.new.self x)
    (effect_not_blocking home who old c.args.moment c.args.request.now c.args.told is)
    (given.ensures home who (asked (heard_not_blocking c.args.told is)))

pub returns-then-is_status-2 : goal.returns-then-is_status-2
returns-then-is_status-2 c = λ home who asked.
    let old = c.args.self.now in
    let other = sym c.is_status.ensures ∙ c.if-is_status.false in
    let is = sym c.is_status-else-is_status.ensures ∙ c.if-is_status-2.true in
    let given = c.answer_named in
    subst (λ (x : Option LaterEffect). GivesLater given.result old given.new.self x)
    (effect_absent home who old c.args.moment c.args.request.now c.args.told other is)
    (given.ensures home who (asked (heard_absent c.args.told is)))

pub returns-else-is_status-2 : goal.returns-else-is_status-2
returns-else-is_status-2 c = λ home who asked.
    let other = sym c.is_status.ensures ∙ c.if-is_status.false in
    let there = sym c.is_status-else-is_status.ensures ∙ c.if-is_status-2.false in
    rw (sym (effect_other home who c.args.self.now c.args.moment c.args.request.now c.args.told other there)) refl
