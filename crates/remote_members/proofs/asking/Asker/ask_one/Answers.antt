use Rattle.std.proofs.lemmas.Result.{err_from_is_err_and}
use Rattle.remote_members.proofs.AskLemmas.{asks_one}
use Rattle.remote_members.proofs.asking.Asker.ask_one.Goals as goal

pub returns-in_err-reply-clause-asks : goal.returns-in_err-reply-clause-asks
returns-in_err-reply-clause-asks g c =
    let failed = err_from_is_err_and c.from_residual.result c.from_residual.ensures.1 in
    rw failed.1 (asks_one g.D.Desk.grown g.met.D.Desk.grown_by_nothing g.met.D.Desk.grown_on c.args.seat.now c.ask-outcome.new.seat _ _ _ _ c.args.request
    c.now-reading.result c.ask-outcome.result c.reply_over.result _ c.ask-outcome.ensures.asked c.now-reading.ensures
    (c.reply_over.ensures c.args.request c.requires.id) tt)

pub returns-clause-asks : goal.returns-clause-asks
returns-clause-asks g c =
    let by = c.in_ok-reply.ensures c.args.request c.requires.id in
    asks_one g.D.Desk.grown g.met.D.Desk.grown_by_nothing g.met.D.Desk.grown_on c.args.seat.now c.ask-outcome.new.seat _ _ _ _ c.args.request
    c.now-reading.result c.ask-outcome.result _ _ c.ask-outcome.ensures.asked c.now-reading.ensures by (by.replied, c.is_done-is_own.ensures)
