use Rattle.http_target.proofs.TargetLemmas.{told_text, told_no_text}
use Rattle.http_target.proofs.target.is_utf8.Goals as goal

pub returns-in-Ok : goal.returns-in-Ok
returns-in-Ok c = told_text c.args.bytes.now c.in-Ok.ensures.cases.1

pub returns-in-Err : goal.returns-in-Err
returns-in-Err c = told_no_text c.args.bytes.now c.in-Err.ensures.cases.0
