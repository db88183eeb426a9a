use Rattle.std.proofs.Common.{◌∙◌}
use Rattle.std.proofs.lemmas.Result.{err_from_is_err_and}
use Rattle.devices.proofs.Writing.{IsUnderWay-next, IsUnderWay-stop}
use Rattle.devices.proofs.streams.StdOutSink.put.Goals as goal

pub loop-rest-preserved : goal.loop-rest-preserved
loop-rest-preserved g c = (
  rw c.split_at.ensures.back
      (IsUnderWay-next _ _ _ _ _ c.in_ok-n.n c.loop-rest.invariant.0 c.in_ok-n.ensures.ok),
  c.in_ok-n.ensures.faults ∙ c.loop-rest.invariant.1,
)

pub returns-in_err-n-clause-err : goal.returns-in_err-n-clause-err
returns-in_err-n-clause-err g c =
    let failed = err_from_is_err_and c.from_residual.result c.from_residual.ensures.1 in
    rw failed.1 (IsUnderWay-stop _ _ _ _ _ c.loop-rest.invariant.0 c.in_err-n.ensures.err)
