use Rattle.std.proofs.Common.{rules, subst, sym, refl, [], ◌∷◌, ◌++◌}
use Rattle.atomic_table.specs.Table.{Allows}
use Rattle.turn_desk.specs.Shared.{Kept, Leaves, Passes}
use Rattle.turn_desk.proofs.SharedLemmas.{passes}
use Rattle.turn_desk.proofs.shared.TurnDesk.pass.Goals as goal

pub store-requires : goal.store-requires
store-requires g c =
    let turn = c.requires.turn in
    let me = c.args.seat.now.seat.me in (
      search rules,
      search rules,
      passes _ _ _ _ _ me _ turn.told turn.object (search rules) turn.turn turn.drawn turn.part turn.hand refl refl
          (λ opening po. subst (λ e. Leaves g.O.Object.step opening (me.0.seen ++ e ∷ []) turn.object) (sym turn.tells)
          (turn.leaves opening po)),
    )
