use Rattle.m2m_value.proofs.Begins.{on_err}
use Rattle.resource_tree.proofs.OverdueLemmas.{some_overdue, until_end, until_late, until_start, until_step}
use Rattle.resource_tree.proofs.index_tree.IndexTree.gather_told.Goals as goal

pub loop-entry-init : goal.loop-entry-init
loop-entry-init c =
    until_start c.args.moment c.args.dues.now.moments.keys c.args.self.now _ _ c.iter-entries.ensures.rest c.new-numbers.ensures.items c.iter-entries.ensures.ordered

pub loop-entry-preserved : goal.loop-entry-preserved
loop-entry-preserved c =
    until_step c.args.moment c.args.dues.now.moments.keys c.args.self.now c.in-Some.entry.now c.loop-entry.entries c.next.new.self _ _ c.in-Some.ensures.steps c.loop-entry.invariant c.in_ok-gather_first.ensures.ok

pub returns-then-moment-entry-clause-ok : goal.returns-then-moment-entry-clause-ok
returns-then-moment-entry-clause-ok c =
    until_late c.args.moment c.args.dues.now.moments.keys c.args.self.now c.in-Some.entry.now c.loop-entry.entries c.next.new.self _ c.in-Some.ensures.steps c.if-moment-entry.true c.loop-entry.invariant

pub returns-clause-ok : goal.returns-clause-ok
returns-clause-ok c =
    until_end c.args.moment c.args.dues.now.moments.keys c.args.self.now c.loop-entry.entries _ c.in_default.ensures.steps.0 c.loop-entry.invariant

pub returns-in_err-gather_first-clause-memory : goal.returns-in_err-gather_first-clause-memory
returns-in_err-gather_first-clause-memory c =
    on_err c.from_residual.result _ (some_overdue c.args.self.now c.args.moment c.requires c.in-Some.entry.now.1 c.in_err-gather_first.ensures.memory)
