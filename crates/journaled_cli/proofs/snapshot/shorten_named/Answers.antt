use Rattle.std.proofs.Common.{Some, None, refl, sym}
use Rattle.journaled_cli.proofs.RunLemmas.{no_fault}
use Rattle.journaled_cli.proofs.snapshot.shorten_named.Goals as goal

-- it was replaced
pub returns-in-Ok-clause-shortens : goal.returns-in-Ok-clause-shortens
returns-in-Ok-clause-shortens g c = record {
  fault = None;
  status_is = refl;
  leaves = λ told none base acts text journal keeps. c.in-Ok.ensures.leaves told base acts text journal keeps;
  leaves_plain = λ told none base deeds text journal keeps. c.in-Ok.ensures.leaves_plain told base deeds text journal keeps;
  any_moment = λ told base acts text journal keeps. c.shorten.ensures.any_moment told base acts text journal keeps;
  any_moment_plain = λ told base deeds text journal keeps. c.shorten.ensures.any_moment_plain told base deeds text journal keeps;
  refused = λ told. tt;
  stays = tt;
}

-- it wasn't
pub returns-in-Err-clause-shortens : goal.returns-in-Err-clause-shortens
returns-in-Err-clause-shortens g c = record {
  fault = Some c.in-Err.fault;
  status_is = c.say_why.ensures;
  leaves = λ told none. no_fault (sym none);
  leaves_plain = λ told none. no_fault (sym none);
  any_moment = λ told base acts text journal keeps. c.shorten.ensures.any_moment told base acts text journal keeps;
  any_moment_plain = λ told base deeds text journal keeps. c.shorten.ensures.any_moment_plain told base deeds text journal keeps;
  refused = λ told. c.in-Err.ensures.refused told;
  stays = c.in-Err.ensures.stays;
}
