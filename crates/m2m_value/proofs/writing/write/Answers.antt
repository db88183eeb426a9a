use Rattle.std.proofs.lemmas.Result.{on_ok_weaker}
use Rattle.m2m_value.proofs.RoundTrip.{reading-text_of}
use Rattle.m2m_value.proofs.writing.write.Goals as goal

pub returns-else-is_err-clause-reads_back : goal.returns-else-is_err-clause-reads_back
returns-else-is_err-clause-reads_back c =
    on_ok_weaker c.write_value-written.result (λ sound shallow. reading-text_of c.args.value.now sound shallow) c.write_value-written.ensures.sound
