use Rattle.std.proofs.lemmas.Result.{err_from_is_err_and}
use Rattle.m2m_io.proofs.ToldLemmas.{prefix_behind}
use Rattle.m2m_io.proofs.status.put_two.Goals as goal

pub returns-in_err-put-2-clause-err : goal.returns-in_err-put-2-clause-err
returns-in_err-put-2-clause-err g c =
    let failed = err_from_is_err_and c.from_residual-in_err-put-2.result c.from_residual-in_err-put-2.ensures.1 in
    rw failed.1 (prefix_behind _ _ _ _ _ c.in_ok-put.ensures.ok c.in_err-put-2.ensures.err)
