use Rattle.twin_replay.proofs.SideLemmas.{done_of, on_ok}
use Rattle.twin_replay.proofs.sides.put_request.Goals as goal

pub returns : goal.returns
returns c =
    on_ok c.memory_for.result (λ met. record {
      outcome = c.step-outcome.result;
      step = c.step-outcome.ensures;
      done = done_of c.step-outcome.result met;
    })
    c.memory_for.ensures
