use Rattle.std.proofs.Common.{rules, subst, sym, refl}
use Rattle.atomic_table.specs.Table.{Allows}
use Rattle.turn_desk.specs.Shared.{Kept, TellsOneLog}
use Rattle.turn_desk.proofs.SharedLemmas.{joins, tells, joined-part, idle-joined}
use Rattle.turn_desk.proofs.shared.TurnDesk.join.Goals as goal

pub join_seat-requires : goal.join_seat-requires
join_seat-requires g c =
    let a = c.requires.first.1 in
    let b = c.requires.second.1 in
    (c.requires.first.0, c.requires.second.0, b.hand, search rules, joins _ _ _ _ _ _ a.part a.turn b.turn)

pub load-requires : goal.load-requires
load-requires g c =
    let shared = c.args.self.now.table.shared in
    let seat = c.join_seat.new.seat in (
      search rules,
      search rules,
      subst (λ m. Allows (Kept g.O.Object.step shared.key.value) shared.table_id.slots seat.id m 1 (λ n. n) (λ _. TellsOneLog g.O.Object.step m))
          (sym c.join_seat.ensures.2)
          (tells _ _ _ _ _ refl (joined-part c.args.a.seat.me.0 c.args.b.seat.me.0 c.requires.first.1.part c.requires.second.1.whole)),
    )

pub returns-clause-seat : goal.returns-clause-seat
returns-clause-seat g c =
    (search rules, idle-joined _ _ _ _ _ c.requires.first.1 c.requires.second.1 c.join_seat.ensures.2 c.load.ensures.2)
