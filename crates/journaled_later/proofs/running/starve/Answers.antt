use Rattle.std.proofs.Common.{refl, sym, ap, subst, ◌∙◌}
use Rattle.std.specs.Prelude.{None}
use Rattle.primitive_json.specs.declared.request.RequestParts.{RequestParts}
use Rattle.accepted_requests.specs.Entries.{LaterEntryData, begun, does_wait, finished}
use Rattle.cse_machine.specs.declared.event.Event.TheVariants.{Tick}
use Rattle.cse_machine.specs.declared.event.Outcome.TheVariants.{Starved}
use Rattle.later_replies.proofs.RunLemmas.{ran_with, starved_by_tick}
use Rattle.later_opening.specs.Snapshots.{AppendsResult}
use Rattle.journaled_later.proofs.RunLemmas.{of_step, on_each, run_home, run_recorded}
use Rattle.journaled_later.specs.Recorded.{RecordsRun}
use Rattle.journaled_later.proofs.running.starve.Goals as goal

pub finish-requires : goal.finish-requires
finish-requires g c = ap does_wait c.begin-request.ensures.begun

pub returns-clause-run : goal.returns-clause-run
returns-clause-run g c =
    let old = c.args.entry.now in
    let left = c.record_inside.new.entity in
    let one = of_step c.args.reading Tick c.args.entity.now c.in_ok-came.came left c.in_ok-came.ensures.step in
    on_each _ _ (λ u put. record {
      outcome = Starved 0;
      step = starved_by_tick c.args.reading old.request c.args.entity.now left one.came one.step;
      kept =
          c.finish.ensures
          ∙ ap (λ (e : LaterEntryData). finished e c.begin-request.result None) c.begin-request.ensures.begun
          ∙ ap (λ (r : RequestParts). finished (begun old) r None) c.begin-request.ensures.request
          ∙ ran_with old (Starved 0);
    }) c.push_result.result c.push_result.ensures

pub returns-clause-starved : goal.returns-clause-starved
returns-clause-starved g c =
    let old = c.args.entry.now in
    on_each _ _ (λ u put.
    c.finish.ensures
    ∙ ap (λ (e : LaterEntryData). finished e c.begin-request.result None) c.begin-request.ensures.begun
    ∙ ap (λ (r : RequestParts). finished (begun old) r None) c.begin-request.ensures.request
    ∙ ran_with old (Starved 0)) c.push_result.result c.push_result.ensures

pub returns-clause-records : goal.returns-clause-records
returns-clause-records g c =
    let old = c.args.entry.now in
    let before = c.args.entity.now in
    let left = c.record_inside.new.entity in
    let lines = c.args.lines.now.items in
    let mid = c.record_inside.new.lines.items in
    let now = c.push_result.new.lines.items in
    let one = of_step c.args.reading Tick before c.in_ok-came.came left c.in_ok-came.ensures.step in
    let step = starved_by_tick c.args.reading old.request before left one.came one.step in
    let kept =
    c.finish.ensures
    ∙ ap (λ (e : LaterEntryData). finished e c.begin-request.result None) c.begin-request.ensures.begun
    ∙ ap (λ (r : RequestParts). finished (begun old) r None) c.begin-request.ensures.request
    ∙ ran_with old (Starved 0) in
    on_each _ _ (λ u put.
    subst (λ (e : LaterEntryData). RecordsRun old before lines e left now) (sym kept)
    (run_recorded old (Starved 0) before left lines mid now (run_home c.args.reading old.request (Starved 0) before left step) c.requires c.in_ok-came.ensures.records
    (subst (λ (e : LaterEntryData). AppendsResult e mid now) kept put))) c.push_result.result c.push_result.ensures
