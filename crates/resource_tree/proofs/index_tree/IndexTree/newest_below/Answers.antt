use Rattle.std.proofs.Common.{◌<◌, arith}
use Rattle.resource_tree.proofs.RemovalLemmas.{none_last, step_down}
use Rattle.resource_tree.proofs.index_tree.IndexTree.newest_below.Goals as goal

pub loop-child-smaller : goal.loop-child-smaller
loop-child-smaller c =
    let less : c.loop-child.at < c.in-Some.child = (step_down c.loop-child.at c.args.self.now c.in-Some.child c.in-Some.ensures.tree c.loop-child.invariant.there c.in-Some.ensures.value).1 in
    let fits : c.in-Some.child < 18446744073709551616 = c.in-Some.ensures.bound in
    omega arith

pub loop-child-preserved : goal.loop-child-preserved
loop-child-preserved c =
    let step = step_down c.loop-child.at c.args.self.now c.in-Some.child c.in-Some.ensures.tree c.loop-child.invariant.there c.in-Some.ensures.value in
    record { there = step.0; goes = λ picks gone. step.2 picks (c.loop-child.invariant.goes picks gone) }

pub returns-clause-alone : goal.returns-clause-alone
returns-clause-alone c = none_last _ c.in_default.ensures.value
