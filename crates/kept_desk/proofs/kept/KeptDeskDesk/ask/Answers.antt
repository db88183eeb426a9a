use Rattle.std.proofs.Common.{refl, inl, sym, subst}
use Rattle.kept_desk.specs.Kept.{SaysNothing}
use Rattle.kept_desk.specs.declared.turn.Turn.TheVariants.{Do}
use Rattle.kept_desk.specs.declared.turn.Answer.TheVariants.{Kept, Lost}
use Rattle.kept_desk.proofs.AnswerLemmas.{asked_once, asked_twice}
use Rattle.kept_desk.proofs.kept.KeptDeskDesk.ask.Goals as goal

pub returns-in-Done-default-true-clause-asked : goal.returns-in-Done-default-true-clause-asked
returns-in-Done-default-true-clause-asked g c =
    let it = c.in-Done-default-true in
    asked_once g.D.Desk.grown c.args.seat.now c.ask.new.seat c.args.reading c.args.event _ (Kept it.outcome) it.ensures.asked (refl, inl it.settled-test)

pub returns-in-Done-default-false-clause-asked : goal.returns-in-Done-default-false-clause-asked
returns-in-Done-default-false-clause-asked g c =
    let it = c.in-Done-default-false in
    asked_twice g.D.Desk.grown g.met.D.Desk.grown_on c.args.seat.now c.ask.new.seat c.settle.new.seat c.args.reading c.args.event it.outcome it.settled c.settle.result it.ensures.asked c.settle.ensures.settles

pub returns-in-Settled : goal.returns-in-Settled
returns-in-Settled g c = record {
  seats = c.ask.ensures.seats;
  asked = asked_once g.D.Desk.grown c.args.seat.now c.ask.new.seat c.args.reading c.args.event c.ask.result Lost c.ask.ensures.asked
      (inl (subst (SaysNothing (Do c.args.event)) (sym c.in-Settled.is) tt));
}

pub returns-in-Failed : goal.returns-in-Failed
returns-in-Failed g c = record {
  seats = c.ask.ensures.seats;
  asked = asked_once g.D.Desk.grown c.args.seat.now c.ask.new.seat c.args.reading c.args.event c.ask.result Lost c.ask.ensures.asked
      (inl (subst (SaysNothing (Do c.args.event)) (sym c.in-Failed.is) tt));
}
