use Rattle.std.proofs.Common.{◌≡◌, [], false, sym, ap, ◌∙◌}
use Rattle.std.proofs.lemmas.Result.{err_from_is_err_and}
use Rattle.group_fanout.specs.Fan.{requests_to}
use Rattle.remote_members.specs.Wide.{tells_of_away}
use Rattle.remote_members.proofs.AskLemmas.{none_asked}
use Rattle.remote_members.proofs.RemoteLemmas.{stays_whole}
use Rattle.remote_members.proofs.WideLemmas.{first_completed, first_short, first_stays}
use Rattle.remote_members.proofs.asking.Asker.answer_alone.Goals as goal

pub returns-in_err-first-clause-answers : goal.returns-in_err-first-clause-answers
returns-in_err-first-clause-answers g c =
    let failed = err_from_is_err_and c.from_residual.result c.from_residual.ensures.1 in
    rw failed.1 (first_short g.D.Desk.grown c.args.seat.now c.ask_one.new.seat _ _ _ _ c.args.self.now.home.now c.args.request c.ask_one.result failed.0 c.ask_one.ensures.asks)

pub returns-then-not-first-clause-answers : goal.returns-then-not-first-clause-answers
returns-then-not-first-clause-answers g c =
    first_stays g.D.Desk.grown c.args.seat.now c.ask_one.new.seat _ _ _ _ c.args.self.now.home.now c.args.request c.in_ok-first.first c.if-not-first.true
    c.in_ok-first.ensures.asks

-- memory ran out as the members were looked at
pub returns-in_err-tells_of_away-clause-answers : goal.returns-in_err-tells_of_away-clause-answers
returns-in_err-tells_of_away-clause-answers g c =
    let failed = err_from_is_err_and c.from_residual-in_err-tells_of_away.result c.from_residual-in_err-tells_of_away.ensures.1 in
    rw failed.1 (first_short g.D.Desk.grown c.args.seat.now c.ask_one.new.seat _ _ _ _ c.args.self.now.home.now c.args.request c.ask_one.result failed.0 c.ask_one.ensures.asks)

-- a member is away, and no copy is there
pub returns-then-branch-clause-answers : goal.returns-then-branch-clause-answers
returns-then-branch-clause-answers g c =
    first_short g.D.Desk.grown c.args.seat.now c.ask_one.new.seat _ _ _ _ c.args.self.now.home.now c.args.request c.ask_one.result _ c.ask_one.ensures.asks

-- none is
pub returns-clause-answers : goal.returns-clause-answers
returns-clause-answers g c =
    let home = c.args.self.now.home.now in
    let tells : tells_of_away home c.in_ok-first.first.reply ≡ false = sym c.in_ok-tells_of_away.ensures ∙ c.if-branch.false in
    let whole = stays_whole home c.in_ok-first.first.reply tells in
    first_completed g.D.Desk.grown _ _ g.met.D.Desk.grown_on c.args.seat.now c.ask_one.new.seat c.ask_one.new.seat _ _ _ _ _ _ home c.args.request
    c.in_ok-first.first _ c.if-not-first.false c.in_ok-first.ensures.asks
    (none_asked g.D.Desk.grown g.met.D.Desk.grown_by_nothing c.ask_one.new.seat _ _ _ _ _ (ap (requests_to c.args.request) whole.0, sym (whole.1 [])))
