use Rattle.std.proofs.Common.{◌≡◌, rules, refl, subst, sym, ap, ◌∙◌}
use Rattle.turn_desk.specs.Shared.{HasObject, with_entry}
use Rattle.turn_desk.proofs.SharedLemmas.{served, idle-asked, asks}
use Rattle.turn_desk.proofs.shared.TurnDeskDesk.ask.Goals as goal

pub take_turn-entry-requires-clause-there : goal.take_turn-entry-requires-clause-there
take_turn-entry-requires-clause-there g c =
    let t = c.await_turn.ensures.turn in (t.object, (t.held, t.hand, t.there))

pub pass-requires-clause-turn : goal.pass-requires-clause-turn
pass-requires-clause-turn g c =
    let t = c.await_turn.ensures.turn in
    let i = c.requires.1 in
    served g.O.Object.step c.draw-ticket.result c.args.seat.now.seat.me.0 c.draw-ticket.new.seat.seat.me c.await_turn.new.seat.seat.me
    c.take_turn-entry.new.seat.seat.me c.take_turn-entry.result c.args.seat.now.seat.me.1 c.draw-ticket.ensures.small i.part
    c.draw-ticket.ensures.drawn t c.take_turn-entry.ensures.view (c.take_turn-entry.ensures.steps t.object (t.held, t.hand, t.there))

pub returns-clause-seats : goal.returns-clause-seats
returns-clause-seats g c =
    let t = c.await_turn.ensures.turn in
    let s = c.take_turn-entry.ensures.steps t.object (t.held, t.hand, t.there) in (
      c.pass.ensures.desk,
      idle-asked g.O.Object.step c.draw-ticket.result c.args.seat.now.seat.me c.draw-ticket.new.seat.seat.me c.await_turn.new.seat.seat.me
          c.take_turn-entry.new.seat.seat.me c.pass.new.seat.seat.me s.object c.take_turn-entry.result c.requires.1 c.draw-ticket.ensures.drawn t
          c.take_turn-entry.ensures.view c.pass.ensures.passed s.steps,
    )

pub returns-clause-asked : goal.returns-clause-asked
returns-clause-asked g c =
    let t = c.await_turn.ensures.turn in
    let e = c.take_turn-entry.ensures.entry in
    let p = subst (λ e. c.pass.new.seat.seat.me ≡ (with_entry e c.take_turn-entry.new.seat.seat.me.0, Rattle.std.proofs.Common.[])) e c.pass.ensures.passed in
    let a = asks g.O.Object.step c.draw-ticket.result c.args.seat.now.seat.me c.draw-ticket.new.seat.seat.me c.await_turn.new.seat.seat.me
    c.take_turn-entry.new.seat.seat.me c.pass.new.seat.seat.me
    (Rattle.turn_desk.specs.Entries.entry_of c.args.reading c.args.event c.take_turn-entry.result.outcome) c.draw-ticket.ensures.drawn t
    c.take_turn-entry.ensures.view p in
    record { others = a.0; grew = a.1 }
