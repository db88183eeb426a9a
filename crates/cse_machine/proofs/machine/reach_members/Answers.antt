use Rattle.std.proofs.Common.{ℕ, List, sym, ap, ◌∙◌, subst}
use Rattle.addressing.specs.Addresses.{are_names}
use Rattle.addressing.specs.declared.addr.Addr.TheVariants.{Local}
use Rattle.entity_model.specs.Places.{ComesTo}
use Rattle.group_fanout.specs.Fan.{fan_effect_at}
use Rattle.cse_machine.proofs.AddressLemmas.{rest_is, rest_names}
use Rattle.cse_machine.proofs.machine.reach_members.Goals as goal

-- the rest of an address is names
pub fan-requires-clause-names : goal.fan-requires-clause-names
fan-requires-clause-names g c =
    let home = c.args.entity.now.home in
    let to = c.args.request.now.to in
    ap are_names (c.in_ok-rest.ensures ∙ sym (rest_is home to c.args.place (Local c.args.segments.now) c.requires.addressed)) ∙ rest_names home to c.args.place

-- and it is the rest that the members are asked with
pub returns-clause-gives : goal.returns-clause-gives
returns-clause-gives g c =
    let e = c.args.entity.now in
    let request = c.args.request.now in
    let is = c.in_ok-rest.ensures ∙ sym (rest_is e.home request.to c.args.place (Local c.args.segments.now) c.requires.addressed) in
    subst (λ (rest : List (List ℕ)). ComesTo c.fan.result c.fan.new.entity (fan_effect_at e request rest c.args.group)) is c.fan.ensures.gives
