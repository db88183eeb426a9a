use Rattle.std.proofs.Common.{◌≤◌, subst}
use Rattle.journaled_later.proofs.answering.push_entry.Goals as goal

pub returns-in-Ok-clause-put : goal.returns-in-Ok-clause-put
returns-in-Ok-clause-put c = λ put. record {
  earlier = subst (λ n. n ≤ c.args.moment) c.accepted.ensures.value c.if-accepted-moment.false;
  appended = c.in-Ok.ensures.written;
  reads_back = c.in-Ok.ensures.reads_back;
}

pub returns-in-Err-clause-stays : goal.returns-in-Err-clause-stays
returns-in-Err-clause-stays c = λ stays. c.in-Err.ensures.err
