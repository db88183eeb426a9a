use Rattle.std.proofs.Common.{refl, sym, ap, subst, ◌∙◌}
use Rattle.primitive_json.specs.declared.request.RequestParts.{RequestParts}
use Rattle.accepted_requests.specs.Entries.{LaterEntryData, begun, does_wait, finished}
use Rattle.journal_events.specs.Steps.{KeptEntityStep}
use Rattle.journal_events.specs.declared.event.KeptEvent.TheVariants as events
use Rattle.cse_machine.specs.declared.event.Event.TheVariants.{Ask}
use Rattle.later_replies.proofs.RunLemmas.{ran_with}
use Rattle.later_replies.specs.Runs.{reply_in}
use Rattle.later_opening.specs.Snapshots.{AppendsResult}
use Rattle.journaled_later.proofs.RunLemmas.{of_step, on_each, run_home, run_recorded}
use Rattle.journaled_later.specs.Recorded.{RecordsRun}
use Rattle.journaled_later.proofs.running.run.Goals as goal

pub finish-requires : goal.finish-requires
finish-requires g c = ap does_wait c.begin.ensures.begun

pub returns-clause-run : goal.returns-clause-run
returns-clause-run g c =
    let old = c.args.entry.now in
    let left = c.record_inside.new.entity in
    let P = λ (r : RequestParts). KeptEntityStep c.args.reading (events.OfMachine (Ask r)) c.args.entity.now c.in_ok-outcome.outcome left in
    let one = of_step c.args.reading (Ask old.request) c.args.entity.now c.in_ok-outcome.outcome left (subst P c.begin.ensures.request c.in_ok-outcome.ensures.step) in
    on_each _ _ (λ u put. record {
      outcome = one.came;
      step = one.step;
      kept =
          c.finish.ensures c.begin.result one.came refl one.is
          ∙ ap (λ (e : LaterEntryData). finished e c.begin.result (reply_in one.came)) c.begin.ensures.begun
          ∙ ap (λ (r : RequestParts). finished (begun old) r (reply_in one.came)) c.begin.ensures.request
          ∙ ran_with old one.came;
    }) c.push_result.result c.push_result.ensures

pub returns-clause-records : goal.returns-clause-records
returns-clause-records g c =
    let old = c.args.entry.now in
    let before = c.args.entity.now in
    let left = c.record_inside.new.entity in
    let lines = c.args.lines.now.items in
    let mid = c.record_inside.new.lines.items in
    let now = c.push_result.new.lines.items in
    let P = λ (r : RequestParts). KeptEntityStep c.args.reading (events.OfMachine (Ask r)) before c.in_ok-outcome.outcome left in
    let one = of_step c.args.reading (Ask old.request) before c.in_ok-outcome.outcome left (subst P c.begin.ensures.request c.in_ok-outcome.ensures.step) in
    let kept =
    c.finish.ensures c.begin.result one.came refl one.is
    ∙ ap (λ (e : LaterEntryData). finished e c.begin.result (reply_in one.came)) c.begin.ensures.begun
    ∙ ap (λ (r : RequestParts). finished (begun old) r (reply_in one.came)) c.begin.ensures.request
    ∙ ran_with old one.came in
    on_each _ _ (λ u put.
    subst (λ (e : LaterEntryData). RecordsRun old before lines e left now) (sym kept)
    (run_recorded old one.came before left lines mid now (run_home c.args.reading old.request one.came before left one.step) c.requires c.in_ok-outcome.ensures.records
    (subst (λ (e : LaterEntryData). AppendsResult e mid now) kept put))) c.push_result.result c.push_result.ensures
