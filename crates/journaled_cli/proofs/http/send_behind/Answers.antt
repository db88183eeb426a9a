use Rattle.std.proofs.Common.{refl, sym, ap}
use Rattle.cse_cli.specs.Run.{status_behind}
use Rattle.journaled_cli.proofs.http.send_behind.Goals as goal

pub returns-in-Ok : goal.returns-in-Ok
returns-in-Ok g c = λ left out. record {
  result = c.send_kept_alone.result;
  sends = c.send_kept_alone.ensures;
  left = refl;
  out = refl;
  status_is = sym (ap (status_behind c.args.whole) c.in-Ok.is);
}

pub returns-in-Err : goal.returns-in-Err
returns-in-Err g c = λ left out. record {
  result = c.send_kept_alone.result;
  sends = c.send_kept_alone.ensures;
  left = refl;
  out = refl;
  status_is = sym (ap (status_behind c.args.whole) c.in-Err.is);
}
