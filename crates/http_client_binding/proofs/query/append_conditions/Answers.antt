use Rattle.http_client_binding.specs.QueryWriting.{condition_pairs, written_order}
use Rattle.http_client_binding.proofs.QueryLemmas.{pairs_more, pairs_all}
use Rattle.http_client_binding.proofs.query.append_conditions.Goals as goal

pub loop-condition-preserved : goal.loop-condition-preserved
loop-condition-preserved c =
    pairs_more (condition_pairs c.args.filter.now) written_order c.loop-condition.condition-index _ c.args.out.now.items
    c.loop-condition.out.items c.append_condition.new.out.items c.loop-condition-test.true c.loop-condition.invariant c.in_ok-append_condition.ensures

pub returns : goal.returns
returns c =
    pairs_all (condition_pairs c.args.filter.now) written_order c.loop-condition.condition-index c.args.out.now.items c.loop-condition.out.items
    c.loop-condition-test.false c.loop-condition.invariant
