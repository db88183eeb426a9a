use Rattle.std.proofs.Common.{refl, ap, subst, ◌∙◌}
use Rattle.primitive_json.specs.declared.request.RequestParts.{RequestParts}
use Rattle.accepted_requests.specs.Entries.{LaterEntryData, begun, does_wait, finished}
use Rattle.cse_machine.specs.Step.{Step}
use Rattle.cse_machine.specs.declared.event.Event.TheVariants.{Ask}
use Rattle.later_replies.specs.Runs.{reply_in}
use Rattle.later_replies.proofs.RunLemmas.{ran_with}
use Rattle.later_replies.proofs.running.run.Goals as goal

pub finish-requires : goal.finish-requires
finish-requires g c = ap does_wait c.begin.ensures.begun

pub returns : goal.returns
returns g c =
    let old = c.args.entry.now in
    let ran = c.step-outcome in
    let told = reply_in ran.result in
    record {
      outcome = ran.result;
      step = subst (λ (r : RequestParts). Step c.args.reading (Ask r) c.args.entity.now ran.result ran.new.entity) c.begin.ensures.request ran.ensures;
      kept =
          c.finish.ensures c.begin.result refl
          ∙ ap (λ (e : LaterEntryData). finished e c.begin.result told) c.begin.ensures.begun
          ∙ ap (λ (r : RequestParts). finished (begun old) r told) c.begin.ensures.request
          ∙ ran_with old ran.result;
    }
