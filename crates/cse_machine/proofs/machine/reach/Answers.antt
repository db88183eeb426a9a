use Rattle.std.proofs.Common.{◌≡◌, IfErr, Option, Some, sym, ap, ◌∙◌, subst}
use Rattle.addressing.specs.declared.spot.Spot.{Spot}
use Rattle.addressing.specs.declared.spot.Spot.TheVariants.{Fan}
use Rattle.entity_model.specs.Places.{ComesTo}
use Rattle.group_fanout.specs.Fan.{IsCutShortAt, served_members}
use Rattle.cse_machine.specs.Answer.{spot_effect}
use Rattle.cse_machine.proofs.machine.reach.Goals as goal

-- at a fan-out point it gives what the members give
pub returns-in-Some-Fan-clause-gives : goal.returns-in-Some-Fan-clause-gives
returns-in-Some-Fan-clause-gives g c =
    let fan : c.in-Some-Fan.field-0 ≡ Fan c.in-Some-Fan.group c.in-Some-Fan.rest = rw c.in-Some-Fan.is at c.in-Some-Fan.field-0-is in
    let is = c.in-Some-Fan.is ∙ ap (λ (spot : Spot). Some spot) fan in
    subst (λ (spot : Option Spot). ComesTo c.reach_members.result c.reach_members.new.entity (spot_effect c.args.entity.now c.args.request.now spot))
    (sym is) c.reach_members.ensures.gives

pub returns-in-Some-Fan-clause-cut : goal.returns-in-Some-Fan-clause-cut
returns-in-Some-Fan-clause-cut g c =
    let fan : c.in-Some-Fan.field-0 ≡ Fan c.in-Some-Fan.group c.in-Some-Fan.rest = rw c.in-Some-Fan.is at c.in-Some-Fan.field-0-is in
    let is = c.in-Some-Fan.is ∙ ap (λ (spot : Spot). Some spot) fan in
    subst (λ (spot : Option Spot). IfErr c.reach_members.result (λ s. IsCutShortAt c.args.entity.now (served_members c.args.entity.now c.args.request.now spot) s.done c.reach_members.new.entity))
    (sym is) c.reach_members.ensures.cut
