use Rattle.std.proofs.Common.{sym, ap, ◌∙◌, subst, ◌∷◌, [], ◌++◌, Some, None}
use Rattle.atomic_table.specs.Table.{opening}
use Rattle.turn_desk.specs.Shared.{Kept, newcomer}
use Rattle.turn_desk.proofs.SharedLemmas.{opens}
use Rattle.turn_desk.proofs.shared.TurnDesk.new.Goals as goal

pub new-requires : goal.new-requires
new-requires g c =
    subst (λ l. Kept g.O.Object.step c.of-key.result.value (opening (0 ∷ 0 ∷ []) l (newcomer c.of-key.result.value)))
    (sym (c.push_reserved.ensures.items ∙ ap (λ l. l ++ record { object = Some c.args.object; entry = None } ∷ []) c.in-Ok.ensures.items))
    (opens g.O.Object.step c.of-key.result.value (record { object = Some c.args.object; entry = None }) (ap Some (sym c.of-key.ensures)))
