use Rattle.std.proofs.Common.{refl}
use Rattle.cse_server.specs.Outside.{link_told}
use Rattle.journaled_server.specs.Sending.{sender}
use Rattle.journaled_server.proofs.SendingLemmas.{sends_looked}
use Rattle.journaled_server.proofs.sending.send_item.Goals as goal

pub returns-clause-sends : goal.returns-clause-sends
returns-clause-sends g c =
    let carried = c.carry-carried in
    let link = link_told (g.L.Link.exchanges carried.new.link) (g.L.Link.faults carried.new.link) in
    sends_looked g.D.Desk.grown c.args.item carried.result.number carried.result.whole c.is_whole.result c.say_sent-is_taken.result c.all_well.result
    _ (sender c.args.seat.now (g.C.Clock.readings c.args.clock.now) link) _ carried.ensures.number c.is_whole.ensures
    (record { carries = carried.ensures.carries; seat = refl; readings = refl }) (c.say_sent-is_taken.ensures.says link)
    c.all_well.ensures.ok c.all_well.ensures.err
