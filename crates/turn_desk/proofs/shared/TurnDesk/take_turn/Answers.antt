use Rattle.std.proofs.Common.{◌≡◌, subst, sym, ap, [], ◌∷◌, Some}
use Rattle.atomic_table.specs.Table.{rest}
use Rattle.turn_desk.proofs.SharedLemmas.{object_is}
use Rattle.turn_desk.proofs.shared.TurnDesk.take_turn.Goals as goal

pub returns-clause-steps : goal.returns-clause-steps
returns-clause-steps g c object h =
    let same = object_is g.O.Object.step c.slot_mut-held.result.now c.in-Some.object object c.args.seat.now.seat.me c.slot_mut-held.ensures.value c.in-Some.is h in
    let none-left : rest c.args.seat.now.seat.me.1 ≡ [] = ap rest h.1 in
    record {
      object = c.turn-outcome.new.self;
      told = c.of.result;
      steps = subst (λ x. g.O.Object.step c.args.reading c.args.event x c.turn-outcome.result c.turn-outcome.new.self) (sym same) c.turn-outcome.ensures;
      hand = ap (λ l. (0, record { object = Some c.turn-outcome.new.self; entry = Some c.of.result }) ∷ l) none-left;
      tells = c.of.ensures;
    }
