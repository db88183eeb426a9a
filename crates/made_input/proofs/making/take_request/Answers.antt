use Rattle.std.proofs.Common.{rules}
use Rattle.made_input.proofs.MakingLemmas.{done_of}
use Rattle.made_input.proofs.making.take_request.Goals as goal

pub returns-in_ok-maker_of-in_default : goal.returns-in_ok-maker_of-in_default
returns-in_ok-maker_of-in_default g c = record {
  takes = record {
    outcome = c.step.result;
    step = c.step.ensures;
    done = done_of c.step.result c.in_default.not-Starved;
    counted = c.with.ensures c.args.reading;
  };
  maker = search rules;
}
