use Rattle.std.proofs.Common.{Ok, ap, refl}
use Rattle.std.specs.Result.{result_ok}
use Rattle.cse_server.proofs.RequestLemmas.{unbound}
use Rattle.cse_server.proofs.TurnLemmas.{heard_none, heard_one, starved_turn, turned, unheard_turn}
use Rattle.cse_server.proofs.connection.Answerer.answer.Goals as goal

-- a frame that binds to a request is asked, and its reply is said
pub id_of-id-requires : goal.id_of-id-requires
id_of-id-requires g c = ap result_ok c.in-Ok.ensures

pub returns-in-Ok-clause-answers : goal.returns-in-Ok-clause-answers
returns-in-Ok-clause-answers g c =
    let rule = g.W.Replier.rule c.args.self.now.replier.now in
    let frame = c.args.heard.now.frame in
    let reply = c.in-Ok-reply.reply in
    turned rule g.D.Desk.grown c.args.heard.now.place c.args.seat.now c.reply.new.seat _ _ _ _ frame reply c.say_reply.result
    (heard_one rule g.D.Desk.grown c.args.seat.now c.reply.new.seat _ _ _ _ frame c.in-Ok.request (ap result_ok c.in-Ok.ensures) (Ok reply) c.in-Ok-reply.ensures.answers)
    c.say_reply.ensures.says c.say_reply.ensures.sound

-- where memory ran out in that, there is none
pub returns-in_default-clause-answers : goal.returns-in_default-clause-answers
returns-in_default-clause-answers g c =
    let rule = g.W.Replier.rule c.args.self.now.replier.now in
    let frame = c.args.heard.now.frame in
    starved_turn rule g.D.Desk.grown c.args.heard.now.place c.args.seat.now c.reply.new.seat _ _ _ frame c.reply.result
    (heard_one rule g.D.Desk.grown c.args.seat.now c.reply.new.seat _ _ _ _ frame c.in-Ok.request (ap result_ok c.in-Ok.ensures) c.reply.result c.reply.ensures.answers)
    refl

pub returns-in-OutOfMemory-clause-answers : goal.returns-in-OutOfMemory-clause-answers
returns-in-OutOfMemory-clause-answers g c =
    unheard_turn (g.W.Replier.rule c.args.self.now.replier.now) g.D.Desk.grown g.met.D.Desk.grown_by_nothing c.args.heard.now.place c.args.seat.now _ _ c.args.heard.now.frame

-- a frame that binds to none is refused
pub returns-in-Ok-refusal_of-clause-answers : goal.returns-in-Ok-refusal_of-clause-answers
returns-in-Ok-refusal_of-clause-answers g c =
    let rule = g.W.Replier.rule c.args.self.now.replier.now in
    let frame = c.args.heard.now.frame in
    let reply = c.in-Ok-refusal_of.reply in
    let none = unbound frame c.in-Err.fault c.in_default-fault.not-OutOfMemory c.in-Err.ensures in
    turned rule g.D.Desk.grown {E = ⊥} c.args.heard.now.place c.args.seat.now c.args.seat.now _ _ _ _ frame reply c.say_reply-in-Ok-refusal_of.result
    (heard_none rule g.D.Desk.grown g.met.D.Desk.grown_by_nothing c.args.seat.now _ _ frame none (Ok reply) c.in-Ok-refusal_of.ensures)
    c.say_reply-in-Ok-refusal_of.ensures.says c.say_reply-in-Ok-refusal_of.ensures.sound

pub returns-clause-answers : goal.returns-clause-answers
returns-clause-answers g c =
    unheard_turn (g.W.Replier.rule c.args.self.now.replier.now) g.D.Desk.grown g.met.D.Desk.grown_by_nothing c.args.heard.now.place c.args.seat.now _ _ c.args.heard.now.frame
