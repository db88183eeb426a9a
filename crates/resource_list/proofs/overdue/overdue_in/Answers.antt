use Rattle.std.proofs.Common.{not}
use Rattle.m2m_value.proofs.Begins.{on_err}
use Rattle.tree_model.specs.Tree.{has, live, overdue_numbers}
use Rattle.tree_model.proofs.OverdueLemmas.{over_some, over_turn}
use Rattle.resource_list.proofs.overdue.overdue_in.Goals as goal

pub loop-k-preserved : goal.loop-k-preserved
loop-k-preserved c =
    over_turn (λ r. not (has r.number (live c.args.moment c.args.resources.now))) c.args.resources.now c.loop-k.k c.loop-k.numbers.items c.push_overdue.new.numbers.items (overdue_numbers c.args.moment c.args.resources.now) c.loop-k.invariant c.in_ok-push_overdue.ensures.ok

pub returns-in_err-push_overdue-clause-memory : goal.returns-in_err-push_overdue-clause-memory
returns-in_err-push_overdue-clause-memory c =
    on_err c.from_residual.result _ (over_some (λ r. not (has r.number (live c.args.moment c.args.resources.now))) c.args.resources.now c.loop-k.k c.loop-k.numbers.items (overdue_numbers c.args.moment c.args.resources.now) c.loop-k.invariant c.in_err-push_overdue.ensures.memory)
