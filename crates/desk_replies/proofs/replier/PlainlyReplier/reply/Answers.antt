use Rattle.desk_replies.proofs.AskingLemmas.{plainly_answers}
use Rattle.desk_replies.proofs.replier.PlainlyReplier.reply.Goals as goal

pub returns-clause-answers : goal.returns-clause-answers
returns-clause-answers g c =
    plainly_answers g.D.Desk.grown g.met.D.Desk.grown_by_nothing g.met.D.Desk.grown_on
    c.args.seat.now c.ask-outcome.new.seat _ _ _ _ c.args.request c.now-reading.result c.ask-outcome.result c.reply_over.result
    c.ask-outcome.ensures.asked c.now-reading.ensures (c.reply_over.ensures c.args.request c.requires.id)
