use Rattle.std.proofs.Common.{◌<◌, refl, sym, ap, ◌∙◌, arith}
use Rattle.tree_model.specs.Tree.{live}
use Rattle.resource_dues.proofs.DuesLemmas.{due_goes}
use Rattle.resource_tree.proofs.RemovalLemmas.{next_later, past_end, past_gone, past_kept, past_start}
use Rattle.resource_tree.proofs.index_tree.IndexTree.expire_each.Goals as goal

pub loop-number-init : goal.loop-number-init
loop-number-init c = record { live = refl; past = λ tree. past_start c.args.moment c.args.self.now tree }

pub loop-number-smaller-then-is_due : goal.loop-number-smaller-then-is_due
loop-number-smaller-then-is_due c =
    let less : c.loop-number.last < c.in-Some.number = next_later c.loop-number.last c.in-Some.number c.loop-number.self c.in-Some.ensures.value in
    let fits : c.in-Some.number < 18446744073709551616 = c.in-Some.ensures.bound in
    omega arith

pub loop-number-preserved-then-is_due : goal.loop-number-preserved-then-is_due
loop-number-preserved-then-is_due c = record {
  live = ap (live c.args.moment) c.remove_one.ensures.value ∙ due_goes c.loop-number.self c.in-Some.number c.args.moment c.remove_one.ensures.tree (sym c.if-is_due.ensures) ∙ c.loop-number.invariant.live;
  past = λ tree. past_gone c.loop-number.last c.in-Some.number c.args.moment c.loop-number.self c.remove_one.new.self c.in-Some.ensures.tree c.in-Some.ensures.value c.remove_one.ensures.value (c.loop-number.invariant.past c.in-Some.ensures.tree);
}

pub loop-number-smaller : goal.loop-number-smaller
loop-number-smaller c =
    let less : c.loop-number.last < c.in-Some.number = next_later c.loop-number.last c.in-Some.number c.loop-number.self c.in-Some.ensures.value in
    let fits : c.in-Some.number < 18446744073709551616 = c.in-Some.ensures.bound in
    omega arith

pub loop-number-preserved : goal.loop-number-preserved
loop-number-preserved c = record {
  live = c.loop-number.invariant.live;
  past = λ tree. past_kept c.loop-number.last c.in-Some.number c.args.moment c.loop-number.self c.in-Some.ensures.tree c.in-Some.ensures.value (sym c.if-is_due.ensures) (c.loop-number.invariant.past c.in-Some.ensures.tree);
}

pub returns : goal.returns
returns c =
    sym (past_end c.loop-number.last c.args.moment c.loop-number.self c.in_default.ensures.tree c.in_default.ensures.value (c.loop-number.invariant.past c.in_default.ensures.tree))
    ∙ c.loop-number.invariant.live
