use Rattle.http_target.proofs.TargetLemmas.{coded_on, plain_on, written_all}
use Rattle.http_target.proofs.target.with_tildes.Goals as goal

pub loop-at-preserved-then-begins_coded : goal.loop-at-preserved-then-begins_coded
loop-at-preserved-then-begins_coded c =
    coded_on c.args.path.now c.loop-at.text.items c.push.new.self.items c.loop-at.at c.begins_coded.result
    c.loop-at.invariant.1 c.loop-at.invariant.0 c.begins_coded.ensures c.if-begins_coded.true c.in_ok-push.ensures.items

pub loop-at-preserved : goal.loop-at-preserved
loop-at-preserved c =
    plain_on c.args.path.now c.loop-at.text.items c.push-else-begins_coded.new.self.items c.loop-at.at c.begins_coded.result
    c.loop-at.invariant.1 c.loop-at-test.true c.begins_coded.ensures c.if-begins_coded.false c.in_ok-push-2.ensures.items

pub returns : goal.returns
returns c = written_all c.args.path.now c.loop-at.text.items c.loop-at.at c.loop-at.invariant.1 c.loop-at-test.false
