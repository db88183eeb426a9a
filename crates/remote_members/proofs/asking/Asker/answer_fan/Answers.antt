use Rattle.std.proofs.lemmas.Bool.{not-false, not-true}
use Rattle.std.proofs.lemmas.Result.{err_from_is_err_and}
use Rattle.remote_members.proofs.WideLemmas.{first_completed, first_short, first_stays, nothing_answered}
use Rattle.remote_members.proofs.asking.Asker.answer_fan.Goals as goal

pub returns-in_err-kept-clause-answers : goal.returns-in_err-kept-clause-answers
returns-in_err-kept-clause-answers g c =
    let failed = err_from_is_err_and c.from_residual.result c.from_residual.ensures.1 in
    rw failed.1 (nothing_answered g.D.Desk.grown g.met.D.Desk.grown_by_nothing c.args.seat.now _ _ c.args.self.now.home.now c.args.request failed.0)

pub returns-in_err-first-clause-answers : goal.returns-in_err-first-clause-answers
returns-in_err-first-clause-answers g c =
    let failed = err_from_is_err_and c.from_residual-in_err-first.result c.from_residual-in_err-first.ensures.1 in
    rw failed.1 (first_short g.D.Desk.grown c.args.seat.now c.ask_one.new.seat _ _ _ _ c.args.self.now.home.now c.args.request c.ask_one.result failed.0 c.ask_one.ensures.asks)

pub returns-then-not-first-clause-answers : goal.returns-then-not-first-clause-answers
returns-then-not-first-clause-answers g c =
    first_stays g.D.Desk.grown c.args.seat.now c.ask_one.new.seat _ _ _ _ c.args.self.now.home.now c.args.request c.in_ok-first.first (not-true c.in_ok-first.first.is_own c.if-not-first.true)
    c.in_ok-first.ensures.asks

pub returns-clause-answers : goal.returns-clause-answers
returns-clause-answers g c =
    first_completed g.D.Desk.grown _ _ g.met.D.Desk.grown_on c.args.seat.now c.ask_one.new.seat c.complete.new.seat _ _ _ _ _ _ c.args.self.now.home.now c.args.request
    c.in_ok-first.first c.complete.result (not-false c.in_ok-first.first.is_own c.if-not-first.false) c.in_ok-first.ensures.asks
    (c.complete.ensures.asks c.args.request c.in_ok-kept.ensures)
