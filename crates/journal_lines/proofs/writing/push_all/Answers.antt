use Rattle.m2m_value.proofs.Begins.{begins_with_itself, on_err}
use Rattle.journal_lines.proofs.writing.push_all.Goals as goal

pub returns-in_err-extend_from_slice-clause-err : goal.returns-in_err-extend_from_slice-clause-err
returns-in_err-extend_from_slice-clause-err c = on_err c.from_residual.result _ (begins_with_itself _ _ c.in_err-extend_from_slice.ensures.items)
