use Rattle.std.proofs.Common.{Ok, sym, ◌∙◌}
use Rattle.std.proofs.lemmas.Result.{err_from_is_err_and}
use Rattle.remote_members.proofs.AskLemmas.{anew_tells, none_asked, not_some, one_member, stays_told}
use Rattle.remote_members.proofs.asking.Asker.tell_member.Goals as goal

pub returns-in_err-address-clause-asks : goal.returns-in_err-address-clause-asks
returns-in_err-address-clause-asks g c =
    let failed = err_from_is_err_and c.from_residual.result c.from_residual.ensures.1 in
    rw failed.1 (none_asked g.D.Desk.grown g.met.D.Desk.grown_by_nothing c.args.seat.now _ _ _ _ _ tt)

pub returns-in_default-clause-asks : goal.returns-in_default-clause-asks
returns-in_default-clause-asks g c =
    none_asked g.D.Desk.grown g.met.D.Desk.grown_by_nothing c.args.seat.now _ _ _ _ _
    (stays_told c.args.self.now.home.now c.args.request.now c.args.entry c.in_ok-address.field-0 c.in_ok-address.ensures.value
    (not_some c.in_ok-address.field-0 c.in_default.not-Some))

pub returns-in_err-question-clause-asks : goal.returns-in_err-question-clause-asks
returns-in_err-question-clause-asks g c =
    let failed = err_from_is_err_and c.from_residual-in_err-question.result c.from_residual-in_err-question.ensures.1 in
    rw failed.1 (none_asked g.D.Desk.grown g.met.D.Desk.grown_by_nothing c.args.seat.now _ _ _ _ _ tt)

pub returns-in_err-answered-clause-asks : goal.returns-in_err-answered-clause-asks
returns-in_err-answered-clause-asks g c =
    let failed = err_from_is_err_and c.from_residual-in_err-answered.result c.from_residual-in_err-answered.ensures.1 in
    rw failed.1 (one_member g.D.Desk.grown c.args.seat.now c.ask_one.new.seat _ _ _ _ c.args.self.now.home.now c.args.request.now c.args.entry c.in-Some.address
    c.in_ok-question.question c.ask_one.result _ _ (sym c.in_ok-address.ensures.value ∙ c.in-Some.is) c.in_ok-question.ensures c.ask_one.ensures.asks tt)

pub returns-clause-asks : goal.returns-clause-asks
returns-clause-asks g c =
    let away = sym c.in_ok-address.ensures.value ∙ c.in-Some.is in
    let one = c.in_ok-answered.ensures.asks in
    one_member g.D.Desk.grown c.args.seat.now c.ask_one.new.seat _ _ _ _ c.args.self.now.home.now c.args.request.now c.args.entry c.in-Some.address
    c.in_ok-question.question (Ok c.in_ok-answered.answered) _ c.told_anew.result away c.in_ok-question.ensures one
    (anew_tells c.args.self.now.home.now c.args.entry c.in-Some.address c.in_ok-answered.answered.reply one.reply c.told_anew.result away one.replied.0 c.told_anew.ensures)
