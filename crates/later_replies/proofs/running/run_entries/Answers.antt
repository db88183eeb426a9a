use Rattle.std.proofs.Common.{Bool, ◌&&◌, ◌||◌, subst}
use Rattle.std.specs.Prelude.{nat_lt}
use Rattle.later_replies.specs.Entries.{LaterEntryData, does_wait}
use Rattle.later_replies.specs.Runs.{AreBounded, ArePassed}
use Rattle.accepted_requests.specs.Sizes.{results_size}
use Rattle.later_replies.proofs.running.run_entries.Goals as goal

pub returns-clause-passed : goal.returns-clause-passed
returns-clause-passed g c =
    subst (λ (all : Bool). ArePassed c.args.reading (λ (e : LaterEntryData). does_wait e && (all || nat_lt e.accepted c.args.moment)) c.args.entries.now.items c.args.entity.now c.pass_all.new.entries.items c.pass_all.new.entity)
    c.runs_all.ensures c.pass_all.ensures.passed

pub returns-clause-bounded : goal.returns-clause-bounded
returns-clause-bounded g c =
    subst (λ (all : Bool). AreBounded (λ (e : LaterEntryData). does_wait e && (all || nat_lt e.accepted c.args.moment)) (results_size c.args.entries.now.items) c.args.entries.now.items c.pass_all.new.entries.items)
    c.runs_all.ensures c.pass_all.ensures.bounded
