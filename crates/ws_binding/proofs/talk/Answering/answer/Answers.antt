use Rattle.std.proofs.Common.{None, Some}
use Rattle.ws_binding.specs.Way.{end_of}
use Rattle.ws_binding.specs.declared.talk.TalkEnded.TheVariants.{Memory}
use Rattle.ws_binding.proofs.TurnLemmas.{fault_says, starved_turn, turned, unsaid}
use Rattle.ws_binding.proofs.talk.Answering.answer.Goals as goal

pub returns-in_default-clause-answers : goal.returns-in_default-clause-answers
returns-in_default-clause-answers g c =
    let hears = rw c.entries-bytes.ensures at c.in_default.ensures.hears in
    starved_turn (g.W.Replier.rule c.args.self.now.replier.now) g.D.Desk.grown c.args.seat.now c.reply_to.new.seat _ _ _ _ c.args.payload _ _ hears

pub returns-in_default-write_payload-clause-answers : goal.returns-in_default-write_payload-clause-answers
returns-in_default-write_payload-clause-answers g c =
    let hears = rw c.entries-bytes.ensures at c.in-Ok.ensures.hears in
    turned (g.W.Replier.rule c.args.self.now.replier.now) g.D.Desk.grown c.args.seat.now c.reply_to.new.seat _ _ _ _ c.args.payload _ _ c.in-Ok.reply (Some Memory) hears
    (unsaid _ _)

pub returns-in-Ok-said-clause-answers : goal.returns-in-Ok-said-clause-answers
returns-in-Ok-said-clause-answers g c =
    let hears = rw c.entries-bytes.ensures at c.in-Ok.ensures.hears in
    let said = rw (c.deref.ensures.value, c.in-Ok-write_payload.ensures) at (rw c.in-Ok-said.is at c.say_told-said.ensures.ok) in
    turned (g.W.Replier.rule c.args.self.now.replier.now) g.D.Desk.grown c.args.seat.now c.reply_to.new.seat _ _ _ _ c.args.payload _ _ c.in-Ok.reply None hears said

pub returns-clause-answers : goal.returns-clause-answers
returns-clause-answers g c =
    let hears = rw c.entries-bytes.ensures at c.in-Ok.ensures.hears in
    let said = rw (c.deref.ensures.value, c.in-Ok-write_payload.ensures) at (rw c.in-Err.is at c.say_told-said.ensures.err) in
    rw c.from.ensures
    (turned (g.W.Replier.rule c.args.self.now.replier.now) g.D.Desk.grown c.args.seat.now c.reply_to.new.seat _ _ _ _ c.args.payload _ _ c.in-Ok.reply (Some (end_of c.in-Err.fault)) hears
    (fault_says c.in-Err.fault _ _ _ said))
