use Rattle.std.proofs.Common.{ap, subst, ◌∙◌}
use Rattle.entity_model.specs.Entity.{EntityData, event_moment}
use Rattle.later_replies.specs.Entries.{LaterData, LaterRequestsData}
use Rattle.kept_object.specs.Records.{Records}
use Rattle.journaled_entity.specs.Handing.{IsHandedOn}
use Rattle.journaled_later.proofs.HandedLemmas.{handed_taken}
use Rattle.journaled_later.proofs.RunLemmas.{event_recorded, on_each}
use Rattle.journaled_later.specs.Keeping.{KeepsLater}
use Rattle.journaled_later.specs.Steps.{IsTakenKept, KeptLaterStep}
use Rattle.journaled_later.proofs.recorder.JournaledLaterRecorder.record.Goals as goal

pub returns-clause-step : goal.returns-clause-step
returns-clause-step g c =
    let moment = c.moment_of-moment.result in
    let ran = c.run_requests.new in
    let taken = c.take_event.new in
    let it = c.in_ok-outcome in
    let after : LaterData = record { inner = taken.entity; requests = taken.requests } in
    let was = subst (λ (standing : LaterRequestsData). IsTakenKept c.args.reading moment c.args.event.now ran.entity standing it.outcome taken.entity taken.requests) c.in_ok-drop_due.ensures.gone it.ensures.taken in
    on_each (IsHandedOn it.outcome) _ (λ came handed.
    subst (λ (before : LaterData). KeptLaterStep c.args.reading c.args.event.now before came after) c.self.view_is
    (record {
      moment = moment;
      at = c.moment_of-moment.ensures.value ∙ ap (λ (e : EntityData). event_moment e.last c.args.reading) c.entity.ensures;
      ran = ran.requests;
      between = ran.entity;
      runs = c.in_ok-run_requests.ensures.passed;
      bounded = c.in_ok-run_requests.ensures.bounded;
      given = c.run_requests.ensures.given;
      taken =
          handed_taken c.args.reading moment ran.entity taken.entity _ taken.requests c.args.event.now it.outcome came was handed;
    })) c.hand_on.result c.hand_on.ensures

pub returns-clause-records : goal.returns-clause-records
returns-clause-records g c =
    let ran = c.run_requests.new in
    let due = c.drop_due.new in
    let taken = c.take_event.new in
    let it = c.in_ok-outcome in
    let after : LaterData = record { inner = taken.entity; requests = taken.requests } in
    on_each (IsHandedOn it.outcome) _ (λ came handed.
    subst (λ (before : LaterData). Records KeepsLater before c.args.lines.now.items after taken.lines.items) c.self.view_is
    (event_recorded c.self.inside.entity ran.entity taken.entity c.self.inside.requests ran.requests due.requests taken.requests c.args.lines.now.items ran.lines.items due.lines.items taken.lines.items
    c.in_ok-run_requests.ensures.records (c.in_ok-drop_due.ensures.records ran.entity) it.ensures.records)) c.hand_on.result c.hand_on.ensures
