use Rattle.std.proofs.Common.{subst}
use Rattle.later_replies.specs.Entries.{LaterData, LaterRequestsData}
use Rattle.later_replies.specs.Step.{IsTakenLater, LaterStep}
use Rattle.later_replies.proofs.stepping.later_step.Goals as goal

pub returns : goal.returns
returns g c =
    let moment = c.moment_of-moment.result in
    let ran = c.run_requests.new in
    let taken = c.take_event in
    let after : LaterData = record { inner = taken.new.entity; requests = taken.new.requests } in
    subst (λ (before : LaterData). LaterStep c.args.reading c.args.event.now before taken.result after) c.state.view_is
    (record {
      moment = moment;
      at = c.moment_of-moment.ensures.value;
      ran = ran.requests;
      between = ran.entity;
      runs = c.run_requests.ensures.passed;
      bounded = c.run_requests.ensures.bounded;
      given = c.run_requests.ensures.given;
      taken =
          subst (λ (standing : LaterRequestsData). IsTakenLater c.args.reading moment c.args.event.now ran.entity standing taken.result taken.new.entity taken.new.requests) c.drop_due.ensures taken.ensures;
    })
