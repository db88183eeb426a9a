use Rattle.std.proofs.lemmas.Result.{err_from_is_err_and}
use Rattle.m2m_io.proofs.ToldLemmas.{prefix_behind}
use Rattle.m2m_io.proofs.status.put_three.Goals as goal

pub returns-in_err-put_two-clause-err : goal.returns-in_err-put_two-clause-err
returns-in_err-put_two-clause-err g c =
    let failed = err_from_is_err_and c.from_residual-in_err-put_two.result c.from_residual-in_err-put_two.ensures.1 in
    rw failed.1 (prefix_behind _ _ _ _ _ c.in_ok-put.ensures.ok c.in_err-put_two.ensures.err)
