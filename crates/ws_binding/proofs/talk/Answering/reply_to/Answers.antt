use Rattle.std.proofs.Common.{ap, ◌∙◌}
use Rattle.std.proofs.lemmas.Result.{err_from_is_err_and}
use Rattle.cse_server.specs.Talk.{malformed}
use Rattle.ws_binding.proofs.HearLemmas.{heard_none, heard_one, unheard}
use Rattle.ws_binding.proofs.talk.Answering.reply_to.Goals as goal

pub returns-in_err-rqi-clause-hears : goal.returns-in_err-rqi-clause-hears
returns-in_err-rqi-clause-hears g c =
    let failed = err_from_is_err_and c.from_residual.result c.from_residual.ensures.1 in
    rw failed.1 (unheard (g.W.Replier.rule c.args.self.now.replier.now) g.D.Desk.grown g.met.D.Desk.grown_by_nothing c.args.seat.now _ _ c.args.payload.now _)

pub returns-in-Refused-clause-hears : goal.returns-in-Refused-clause-hears
returns-in-Refused-clause-hears g c =
    let heard = rw c.in-Refused.is at c.in_ok-rqi.ensures in
    heard_none (g.W.Replier.rule c.args.self.now.replier.now) g.D.Desk.grown g.met.D.Desk.grown_by_nothing c.args.seat.now _ _ c.args.payload.now heard.0
    c.bare_reply.result (c.bare_reply.ensures ∙ ap malformed heard.1)

pub returns-in-Asks-clause-hears : goal.returns-in-Asks-clause-hears
returns-in-Asks-clause-hears g c =
    let heard = rw c.in-Asks.is at c.in_ok-rqi.ensures in
    heard_one (g.W.Replier.rule c.args.self.now.replier.now) g.D.Desk.grown c.args.seat.now c.reply.new.seat _ _ _ _ c.args.payload.now c.in-Asks.request heard.0
    c.reply.result c.reply.ensures.answers
