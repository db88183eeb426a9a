use Rattle.std.proofs.Common.{◌≡◌, ◌+◌, ℕ, List, [], drop, get_or, arith}
use Rattle.std.proofs.lemmas.List.{drop_all, drop_more}
use Rattle.std.proofs.lemmas.Result.{IfOk-weaker}
use Rattle.resource_dues.proofs.DuesLemmas.{told_end, told_start, told_turn}
use Rattle.resource_dues.proofs.dues.moments_of.Goals as goal

pub loop-number-init : goal.loop-number-init
loop-number-init c = told_start c.args.list.now c.numbers-number-items.result.now _ c.numbers-number-items.ensures

pub loop-number-preserved : goal.loop-number-preserved
loop-number-preserved c =
    let ns : List ℕ = c.numbers-number-items.result.now in
    let at = c.loop-number.number-index in
    let split = drop_more ns at 0 (omega (arith, c.loop-number-test.true)) in
    told_turn c.args.list.now (get_or ns at 0) (drop at ns) (drop (at + 1) ns) c.loop-number.entries.items c.push_entry.new.entries.items c.due_of.result split c.due_of.ensures c.push_entry.ensures.kept c.in_ok-push_entry.ensures.ok c.loop-number.invariant

pub returns : goal.returns
returns c =
    let ns : List ℕ = c.numbers-number-items.result.now in
    let at = c.loop-number.number-index in
    let none : drop at ns ≡ [] = drop_all at ns (omega (arith, c.loop-number-test.false)) in
    IfOk-weaker c.in_order.result _ _ (λ moments keeps. told_end c.args.list.now (drop at ns) c.loop-number.entries.items moments.keys none c.loop-number.invariant keeps) c.in_order.ensures
