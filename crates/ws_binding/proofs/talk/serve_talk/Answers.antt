use Rattle.std.proofs.Common.{◌≡◌, arith, refl, ◌∙◌}
use Rattle.ws_binding.specs.Talk.{most_payloads}
use Rattle.ws_binding.specs.declared.talk.TalkEnded.TheVariants.{Failed}
use Rattle.ws_binding.proofs.WayLemmas.{Goes-ends, Goes-then, Serves-then, goes_none, next_goes}
use Rattle.ws_binding.proofs.talk.serve_talk.Goals as goal

pub loop-init : goal.loop-init
loop-init g c = record {
  seats = c.requires;
  goes = goes_none (g.W.Replier.rule c.args.replier.now) g.D.Desk.grown g.met.D.Desk.grown_by_nothing c.args.seat.now _ _ _;
  steady = refl;
}

pub returns-in-Some-clause-serves : goal.returns-in-Some-clause-serves
returns-in-Some-clause-serves g c =
    Serves-then (g.W.Replier.rule c.args.replier.now) g.D.Desk.grown g.met.D.Desk.grown_on c.loop.counter c.args.seat.now c.loop.seat c.answer_next.new.seat
    _ _ _ _ _ _ _ _ _ c.in-Some.ended c.loop-test.true c.loop.invariant.goes c.in-Some.ensures.next (λ e. c.in-Some.ensures.closed (rw e refl))

pub loop-preserved : goal.loop-preserved
loop-preserved g c =
    let on = c.in_default.not-Some in
    record {
      seats = c.answer_next.ensures.seats;
      goes = Goes-then (g.W.Replier.rule c.args.replier.now) g.D.Desk.grown g.met.D.Desk.grown_on c.loop.counter c.args.seat.now c.loop.seat c.answer_next.new.seat
          _ _ _ _ _ _ _ _ _ c.loop.invariant.goes (next_goes _ _ c.answer_next.result on c.answer_next.ensures.next);
      steady = c.answer_next.ensures.faults.steady (on Failed) ∙ c.loop.invariant.steady;
    }

pub returns-clause-serves : goal.returns-clause-serves
returns-clause-serves g c =
    let all : c.loop.counter ≡ most_payloads = omega (arith, c.loop.auto.counter-end, c.loop-test.false) in
    Goes-ends (g.W.Replier.rule c.args.replier.now) g.D.Desk.grown c.loop.counter c.args.seat.now c.loop.seat _ _ _ _ _ _ all c.loop.invariant.goes
