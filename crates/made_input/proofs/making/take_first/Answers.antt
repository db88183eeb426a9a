use Rattle.std.proofs.Common.{◌≡◌, sym, subst, take, arith}
use Rattle.made_input.specs.Making.{Makes}
use Rattle.made_input.specs.Requests.{IsMade, first_inputs}
use Rattle.made_input.proofs.MakingLemmas.{few_first, first_made, first_more, has_room, makes_more, makes_none}
use Rattle.made_input.proofs.making.take_first.Goals as goal

pub loop-place-init : goal.loop-place-init
loop-place-init g c = (makes_none c.args.entity.now, c.in_ok-maker.ensures)

pub take_request-requires-clause-room : goal.take_request-requires-clause-room
take_request-requires-clause-room g c = has_room _ _ _ _ c.loop-place.invariant.0 (few_first c.loop-place.place)

pub take_request-requires-clause-made : goal.take_request-requires-clause-made
take_request-requires-clause-made g c = subst IsMade (sym c.in_ok-request.ensures) (first_made c.loop-place.place)

pub loop-place-preserved : goal.loop-place-preserved
loop-place-preserved g c = (
  subst (λ v. Makes v c.args.entity.now c.take_request.new.entity c.take_request.new.tally)
      (sym (first_more c.loop-place.place c.in_ok-request.request c.loop-place-test.true c.in_ok-request.ensures))
      (makes_more _ _ _ _ _ _ 0 c.in_ok-request.request c.loop-place.invariant.0 c.in_ok-maker-2.ensures.takes),
  c.in_ok-maker-2.ensures.maker,
)

pub returns : goal.returns
returns g c =
    let all : c.loop-place.place ≡ 7 = omega arith in
    record {
      tally = c.loop-place.uncounted;
      makes = subst (λ n. Makes (take n first_inputs) c.args.entity.now c.loop-place.entity c.loop-place.uncounted) all c.loop-place.invariant.0;
    }
