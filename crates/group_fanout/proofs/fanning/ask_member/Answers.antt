use Rattle.std.proofs.Common.{Ok, sym, subst}
use Rattle.entity_model.specs.Places.{ComesTo}
use Rattle.group_fanout.proofs.FanLemmas.{member_is}
use Rattle.group_fanout.proofs.fanning.ask_member.Goals as goal

-- at an address it gives what it gives where that leads
pub returns-in-Ok-clause-gives : goal.returns-in-Ok-clause-gives
returns-in-Ok-clause-gives g c =
    let is =
    member_is c.args.entity.now c.args.request.now c.args.address.now (Ok c.in-Ok.addr) c.requires.fanned c.in-Ok.ensures in
    subst (ComesTo c.ask_at.result c.ask_at.new.entity) (sym is) c.ask_at.ensures.gives
