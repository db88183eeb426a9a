use Rattle.std.proofs.Common.{refl, ap, ◌∙◌}
use Rattle.primitive_json.specs.declared.request.RequestParts.{RequestParts}
use Rattle.accepted_requests.specs.Entries.{LaterEntryData, begun, does_wait, finished}
use Rattle.cse_machine.specs.declared.event.Outcome.TheVariants.{Starved}
use Rattle.std.specs.Prelude.{None}
use Rattle.later_replies.proofs.RunLemmas.{ran_with, starved_by_tick}
use Rattle.later_replies.proofs.running.starve.Goals as goal

pub finish-requires : goal.finish-requires
finish-requires g c = ap does_wait c.begin-request.ensures.begun

pub returns-clause-run : goal.returns-clause-run
returns-clause-run g c =
    let old = c.args.entry.now in
    record {
      outcome = Starved 0;
      step = starved_by_tick c.args.reading old.request c.args.entity.now c.step.new.entity c.step.result c.step.ensures;
      kept =
          c.finish.ensures
          ∙ ap (λ (e : LaterEntryData). finished e c.begin-request.result None) c.begin-request.ensures.begun
          ∙ ap (λ (r : RequestParts). finished (begun old) r None) c.begin-request.ensures.request
          ∙ ran_with old (Starved 0);
    }

pub returns-clause-starved : goal.returns-clause-starved
returns-clause-starved g c =
    let old = c.args.entry.now in
    c.finish.ensures
    ∙ ap (λ (e : LaterEntryData). finished e c.begin-request.result None) c.begin-request.ensures.begun
    ∙ ap (λ (r : RequestParts). finished (begun old) r None) c.begin-request.ensures.request
    ∙ ran_with old (Starved 0)
