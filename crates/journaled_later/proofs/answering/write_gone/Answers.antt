use Rattle.journaled_later.proofs.answering.write_gone.Goals as goal

pub returns-in-Ok : goal.returns-in-Ok
returns-in-Ok c = record {
  number = c.in_ok-number.number;
  is = c.in_ok-number.was;
  appended = c.in-Ok.ensures.written;
  reads_back = c.in-Ok.ensures.reads_back;
}
