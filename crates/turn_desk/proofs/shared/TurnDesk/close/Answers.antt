use Rattle.std.proofs.Common.{◌≡◌, Some, None, sym, ap, ◌∙◌, subst}
use Rattle.turn_desk.specs.Shared.{Leaves}
use Rattle.turn_desk.proofs.SharedLemmas.{closes, same-held}
use Rattle.turn_desk.proofs.shared.TurnDesk.close.Goals as goal

pub unreachable-requires : goal.unreachable-requires
unreachable-requires g c =
    let t = closes g.O.Object.step _ _ _ _ _ c.requires.whole c.requires.seat.1.turn c.close_with-closed.ensures.values.2 in
    let e = same-held _ t.0 c.take-object.result t.2 c.take-object.ensures.value in
    let q : Some t.1 ≡ None = sym t.3 ∙ ap (λ h. h.object) e ∙ c.in_default.is in cc

pub returns-clause-left : goal.returns-clause-left
returns-clause-left g c opening po =
    let t = closes g.O.Object.step _ _ _ _ _ c.requires.whole c.requires.seat.1.turn c.close_with-closed.ensures.values.2 in
    let e = same-held _ t.0 c.take-object.result t.2 c.take-object.ensures.value in
    let q : Some t.1 ≡ Some c.in-Some.object = sym t.3 ∙ ap (λ h. h.object) e ∙ c.in-Some.is in
    let h : t.1 ≡ c.in-Some.object = cc in
    let p : Some c.args.self.table.shared.key.value ≡ Some opening = sym t.4 ∙ po in
    let o : c.args.self.table.shared.key.value ≡ opening = cc in
    subst (λ x. Leaves g.O.Object.step x c.args.seat.seat.me.0.seen c.in-Some.object) o
    (subst (λ x. Leaves g.O.Object.step c.args.self.table.shared.key.value c.args.seat.seat.me.0.seen x) h t.5)

pub returns-clause-all : goal.returns-clause-all
returns-clause-all g c =
    let t = closes g.O.Object.step _ _ _ _ _ c.requires.whole c.requires.seat.1.turn c.close_with-closed.ensures.values.2 in t.6
