use Rattle.std.proofs.Common.{◌≡◌, rules, subst, sym, ap, ◌∙◌, Some}
use Rattle.turn_desk.specs.Shared.{IsWaiting, TakesTurn}
use Rattle.turn_desk.proofs.SharedLemmas.{looks}
use Rattle.turn_desk.proofs.shared.TurnDesk.await_turn.Goals as goal

pub load-served-requires : goal.load-served-requires
load-served-requires g c =
    let w = subst (λ m. IsWaiting m c.args.ticket) (sym c.loop.invariant.0) c.requires.drawn in
    (search rules, search rules, looks _ _ _ _ _ _ w.drawn w.turn w.part w.hand)

pub returns-then-served-ticket-clause-turn : goal.returns-then-served-ticket-clause-turn
returns-then-served-ticket-clause-turn g c =
    let w = subst (λ m. IsWaiting m c.args.ticket) (sym c.loop.invariant.0) c.requires.drawn in
    let e : c.load-served.result ≡ c.args.ticket = search rules in
    subst (λ m. TakesTurn g.O.Object.step m c.load-served.new.seat.me) c.loop.invariant.0
    (c.load-served.ensures.2.0 (w.drawn ∙ ap Some (sym e)))
