use Rattle.std.proofs.Common.{◌<◌, length, refl, ◌∙◌, arith, rules}
use Rattle.std.proofs.lemmas.Grind.{common_steps}
use Rattle.std.proofs.lemmas.List.{length-set}
use Rattle.notify_outbox.proofs.DropLemmas.{freshened_next, freshened_all}
use Rattle.notify_outbox.proofs.aging.drop_fronts.Goals as goal

pub each-preserved : goal.each-preserved
each-preserved c =
    let same = c.each.invariant.1 in
    let within : c.each.place < length c.args.queues.now.items = first_of (omega arith, search rules, grind (arith, common_steps)) in (
      freshened_next c.args.limit c.each.place c.args.queues.now.items c.each.queues.items _ c.index_mut-queue.result.now c.freshen.new.queue within c.each.invariant.0 c.index_mut-queue.ensures.value c.freshen.ensures.channel c.freshen.ensures.items refl,
      length-set c.each.queues.items c.each.place c.freshen.new.queue ∙ c.each.invariant.1,
      c.each.invariant.2,
    )

pub returns-clause-items : goal.returns-clause-items
returns-clause-items c = c.each.invariant.0 ∙ freshened_all c.args.limit c.each.place c.args.queues.now.items (let same = c.each.invariant.1 in first_of (omega arith, search rules, grind (arith, common_steps)))
