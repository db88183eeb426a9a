use Rattle.std.proofs.Common.{IfSome, ap, subst}
use Rattle.accepted_requests.specs.Entries.{LaterRequestsData}
use Rattle.accepted_requests.specs.Sizes.{results_size}
use Rattle.later_replies.specs.Runs.{AreBounded, ArePassed}
use Rattle.journaled_later.specs.Recorded.{RecordsLater}
use Rattle.journaled_later.specs.Steps.{is_run_by}
use Rattle.journaled_later.proofs.running.run_requests.Goals as goal

pub returns-clause-passed : goal.returns-clause-passed
returns-clause-passed g c =
    let ran = c.run_entries.new in
    subst (λ (q : LaterRequestsData). IfSome c.run_entries.result (λ _. ArePassed c.args.reading (is_run_by c.args.moment c.args.event.now) q.entries c.args.entity.now ran.entries.items ran.entity)) c.requests.view_is
    c.run_entries.ensures.passed

pub returns-clause-bounded : goal.returns-clause-bounded
returns-clause-bounded g c =
    let ran = c.run_entries.new in
    subst (λ (q : LaterRequestsData). IfSome c.run_entries.result (λ _. AreBounded (is_run_by c.args.moment c.args.event.now) (results_size q.entries) q.entries ran.entries.items)) c.requests.view_is
    c.run_entries.ensures.bounded

pub returns-clause-given : goal.returns-clause-given
returns-clause-given g c = ap (λ (q : LaterRequestsData). q.given) c.requests.view_is

pub returns-clause-records : goal.returns-clause-records
returns-clause-records g c =
    let ran = c.run_entries.new in
    let given = c.requests.inside.given in
    subst (λ (q : LaterRequestsData). IfSome c.run_entries.result (λ _. RecordsLater c.args.entity.now q c.args.lines.now.items ran.entity (record { entries = ran.entries.items; given = given }) ran.lines.items)) c.requests.view_is
    (c.run_entries.ensures.records given)
