use Rattle.std.proofs.Common.{◌≡◌, ℕ, ◌≤◌, sym, ap, ◌∙◌, subst, arith}
use Rattle.std.proofs.lemmas.Result.{on_ok_weaker}
use Rattle.entity_model.specs.Entity.{EntityData, cut, event_moment, expired_told, swept}
use Rattle.entity_model.proofs.TellingLemmas.{swept_still}
use Rattle.entity_model.proofs.sweeping.sweep.Goals as goal

-- what is told at the moment of the reading is what the reading finds
told_is : (e after : EntityData) (reading moment : ℕ) → moment ≡ event_moment e.last reading → after ≡ expired_told moment e → after ≡ swept reading e
told_is e after reading moment is told = told ∙ ap (λ (m : ℕ). expired_told m e) is

pub returns-then-moment-entity-clause-ok : goal.returns-then-moment-entity-clause-ok
returns-then-moment-entity-clause-ok g c =
    let early : cut c.args.reading ≤ c.entity.inside.last = omega (arith, c.event_moment-moment.ensures, c.if-moment-entity.true) in
    subst (λ (e : EntityData). e ≡ swept c.args.reading e) c.entity.view_is (sym (swept_still c.args.reading _ c.entity.invariant early))

pub returns-clause-ok : goal.returns-clause-ok
returns-clause-ok g c =
    let moment : c.event_moment-moment.result ≡ event_moment c.args.entity.now.last c.args.reading = c.event_moment-moment.ensures ∙ ap (λ (e : EntityData). event_moment e.last c.args.reading) c.entity.view_is in
    on_ok_weaker c.expire_to.result
    (λ told. told_is c.args.entity.now c.expire_to.new.entity c.args.reading c.event_moment-moment.result moment (told ∙ ap (expired_told c.event_moment-moment.result) c.settle.ensures))
    c.expire_to.ensures.ok
