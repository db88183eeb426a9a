use Rattle.ws_binding.specs.Talker.{talk_told}
use Rattle.ws_binding.proofs.TurnLemmas.{end_stays}
use Rattle.ws_binding.proofs.WayLemmas.{ends_at_once, some_same, turn_next, turn_stays}
use Rattle.ws_binding.proofs.talk.Answering.answer_next.Goals as goal

pub returns-in-Ok-Payload-clause-next : goal.returns-in-Ok-Payload-clause-next
returns-in-Ok-Payload-clause-next g c =
    let taken = rw c.in-Ok-Payload.field-0-is at c.in-Ok-Payload.ensures.given in
    let old = talk_told (g.K.Talker.to_come c.args.talker.now) (g.K.Talker.said c.args.talker.now) in
    let mid = talk_told (g.K.Talker.to_come c.receive.new.self) (g.K.Talker.said c.receive.new.self) in
    let new = talk_told (g.K.Talker.to_come c.answer.new.talker) (g.K.Talker.said c.answer.new.talker) in
    turn_next (g.W.Replier.rule c.args.self.now.replier.now) g.D.Desk.grown c.args.seat.now c.answer.new.seat _ _ _ _ c.in-Ok-Payload.payload old mid new
    taken c.in-Ok-Payload.ensures.kept c.answer.ensures.kept c.answer.result c.answer.ensures.answers

pub returns-in-Ok-Payload-clause-closed : goal.returns-in-Ok-Payload-clause-closed
returns-in-Ok-Payload-clause-closed g c = λ e. absurd (turn_stays c.answer.result _ _ _ c.answer.ensures.answers.said e)

pub returns-in-Ok-End-clause-next : goal.returns-in-Ok-End-clause-next
returns-in-Ok-End-clause-next g c =
    let taken = rw c.in-Ok-End.field-0-is at c.in-Ok-End.ensures.given in
    ends_at_once (g.W.Replier.rule c.args.self.now.replier.now) g.D.Desk.grown g.met.D.Desk.grown_by_nothing c.args.seat.now _ _ _ _ _ taken.0 c.in-Ok-End.ensures.kept (λ e. taken.1)

pub returns-in-Err-clause-next : goal.returns-in-Err-clause-next
returns-in-Err-clause-next g c =
    rw c.from.ensures
    (ends_at_once (g.W.Replier.rule c.args.self.now.replier.now) g.D.Desk.grown g.met.D.Desk.grown_by_nothing c.args.seat.now _ _ _ _ _ c.in-Err.ensures.given c.in-Err.ensures.kept
    (λ e. absurd (end_stays c.in-Err.fault e)))

pub returns-in-Err-clause-closed : goal.returns-in-Err-clause-closed
returns-in-Err-clause-closed g c = rw c.from.ensures (λ e. absurd (end_stays c.in-Err.fault (some_same _ _ e)))
