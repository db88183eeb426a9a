use Rattle.std.proofs.Common.{sym, ap}
use Rattle.kept_desk.specs.declared.turn.Answer.TheVariants.{Kept}
use Rattle.cse_machine.specs.declared.event.Outcome.TheVariants.{Starved}
use Rattle.journaled_server.specs.Plain.{plain_outcome}
use Rattle.journaled_server.proofs.PlainLemmas.{plain_asked}
use Rattle.journaled_server.proofs.plain.PlainDeskDesk.ask.Goals as goal

pub returns-in-Kept-clause-asked : goal.returns-in-Kept-clause-asked
returns-in-Kept-clause-asked g c =
    plain_asked g.D.Desk.grown c.args.seat.now c.ask.new.seat c.args.reading c.args.event (Kept c.in-Kept.came) c.into_machine_outcome.result c.into_machine_outcome.ensures c.in-Kept.ensures.asked

pub returns-in-Lost-clause-asked : goal.returns-in-Lost-clause-asked
returns-in-Lost-clause-asked g c =
    plain_asked g.D.Desk.grown c.args.seat.now c.ask.new.seat c.args.reading c.args.event c.ask.result (Starved 0) (sym (ap plain_outcome c.in-Lost.is)) c.ask.ensures.asked
