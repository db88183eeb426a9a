use Rattle.std.proofs.Common.{ap, subst}
use Rattle.later_replies.specs.Entries.{LaterRequestsData}
use Rattle.accepted_requests.specs.Sizes.{results_size}
use Rattle.later_replies.specs.Runs.{AreBounded, ArePassed, is_to_run}
use Rattle.later_replies.proofs.running.run_requests.Goals as goal

pub returns-clause-passed : goal.returns-clause-passed
returns-clause-passed g c =
    let ran = c.run_entries.new in
    subst (λ (r : LaterRequestsData). ArePassed c.args.reading (is_to_run c.args.moment c.args.event.now) r.entries c.args.entity.now ran.entries.items ran.entity) c.requests.view_is c.run_entries.ensures.passed

pub returns-clause-bounded : goal.returns-clause-bounded
returns-clause-bounded g c =
    let ran = c.run_entries.new in
    subst (λ (r : LaterRequestsData). AreBounded (is_to_run c.args.moment c.args.event.now) (results_size r.entries) r.entries ran.entries.items) c.requests.view_is c.run_entries.ensures.bounded

pub returns-clause-given : goal.returns-clause-given
returns-clause-given g c = ap (λ (r : LaterRequestsData). r.given) c.requests.view_is
