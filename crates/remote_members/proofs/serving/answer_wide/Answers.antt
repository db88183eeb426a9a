use Rattle.std.proofs.lemmas.Result.{err_from_is_err_and}
use Rattle.remote_members.proofs.WideLemmas.{nothing_answered}
use Rattle.remote_members.proofs.serving.answer_wide.Goals as goal

pub returns-in_err-id-clause-answers : goal.returns-in_err-id-clause-answers
returns-in_err-id-clause-answers g c =
    let failed = err_from_is_err_and c.from_residual.result c.from_residual.ensures.1 in
    rw failed.1 (nothing_answered g.D.Desk.grown g.met.D.Desk.grown_by_nothing c.args.seat.now _ _ c.args.home.now c.args.request failed.0)
