use Rattle.workers.proofs.RoundsLemmas.{runs_none, runs_once, runs_on}
use Rattle.workers.proofs.serving.run_beside.Goals as goal

pub loop-init : goal.loop-init
loop-init g c = (c.requires, runs_none c.args.beside.seat c.args.beside.bench)

pub loop-preserved : goal.loop-preserved
loop-preserved g c = (c.run.ensures.seats, runs_on c.loop.invariant.1 (runs_once c.run.ensures.does c.run.ensures.grew))

pub returns-then-not-wait-clause-rounds : goal.returns-then-not-wait-clause-rounds
returns-then-not-wait-clause-rounds g c =
    runs_on c.loop.invariant.1 (runs_once c.run.ensures.does c.run.ensures.grew)
