use Rattle.workers.proofs.ShiftsLemmas.{works_none, works_more}
use Rattle.workers.proofs.serving.serve_rest.Goals as goal

pub loop-init : goal.loop-init
loop-init g c = (c.requires, works_none c.args.seat.now c.args.bench.now)

pub loop-preserved : goal.loop-preserved
loop-preserved g c =
    let done = c.attended.ensures in
    (done.seats, works_more c.loop.invariant.1 done.attends done.grew)
