use Rattle.std.proofs.Common.{sym, subst}
use Rattle.group_fanout.specs.Rights.{claimed_originator}
use Rattle.cse_machine.specs.Step.{Step}
use Rattle.cse_machine.specs.declared.event.Event.{Event}
use Rattle.accepted_requests.specs.Asked.{IsAskedAs}
use Rattle.later_replies.specs.Step.{IsAnsweredBy, event_effect}
use Rattle.later_replies.proofs.HeardLemmas.{heard_asked}
use Rattle.later_replies.proofs.stepping.ask.Goals as goal

pub returns : goal.returns
returns g c =
    let before = c.args.entity.now in
    let standing = c.args.requests.now in
    let request = c.args.request.now in
    let told = c.step-told.result in
    let after = c.step-told.new.entity in
    let step = subst (λ (e : Event). Step c.args.reading e before told after) c.requires.asks c.step-told.ensures in
    record {
      told = told;
      step = c.step-told.ensures;
      answered =
          subst (λ (e : Event). IsAnsweredBy (event_effect before.home standing c.args.moment e told) standing told c.answer.result c.answer.new.requests) (sym c.requires.asks)
          (c.answer.ensures before.home (λ heard.
          heard_asked (IsAskedAs before.home (claimed_originator before.home request) standing request c.asked_by-asked.result) c.args.reading request before after told step c.asked_by-asked.ensures.asked heard));
    }
