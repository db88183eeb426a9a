use Rattle.std.proofs.Common.{◌≡◌, ◌<◌, ◌^◌, sym, subst, arith}
use Rattle.made_input.specs.Making.{Makes}
use Rattle.made_input.specs.Requests.{IsMade, made_inputs}
use Rattle.made_input.proofs.MakingLemmas.{few_made, has_room, made_made, made_more, makes_more, makes_none}
use Rattle.made_input.proofs.making.take_made.Goals as goal

pub loop-i-init : goal.loop-i-init
loop-i-init g c = (makes_none c.args.entity.now, c.in_ok-maker.ensures)

pub take_request-requires-clause-room : goal.take_request-requires-clause-room
take_request-requires-clause-room g c =
    let fits : c.args.requests < 2 ^ 64 = omega arith in
    has_room _ _ _ _ c.loop-i.invariant.0 (few_made c.loop-i.i c.args.requests c.loop-i-test.true fits)

pub take_request-requires-clause-made : goal.take_request-requires-clause-made
take_request-requires-clause-made g c = subst IsMade (sym c.in_ok-request.ensures) (made_made c.loop-i.i)

pub loop-i-preserved : goal.loop-i-preserved
loop-i-preserved g c = (
  subst (λ v. Makes v c.args.entity.now c.take_request.new.entity c.take_request.new.tally)
      (sym (made_more c.loop-i.i c.in_ok-request.request c.in_ok-request.ensures))
      (makes_more _ _ _ _ _ _ c.loop-i.i c.in_ok-request.request c.loop-i.invariant.0 c.in_ok-maker-2.ensures.takes),
  c.in_ok-maker-2.ensures.maker,
)

pub returns : goal.returns
returns g c =
    let all : c.loop-i.i ≡ c.args.requests = omega arith in
    subst (λ n. Makes (made_inputs n) c.args.entity.now c.loop-i.entity c.loop-i.tally) all c.loop-i.invariant.0
