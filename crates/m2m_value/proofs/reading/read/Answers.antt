use Rattle.std.proofs.Common.{◌≡◌, true, inr, ap, ◌∙◌, arith}
use Rattle.m2m_value.specs.Reading.{value_if}
use Rattle.m2m_value.proofs.Answering.{reading-text, reading-refused}
use Rattle.m2m_value.proofs.Depths.{shallow}
use Rattle.m2m_value.proofs.reading.read.Goals as goal

pub returns-in-Ok-clause-value : goal.returns-in-Ok-clause-value
returns-in-Ok-clause-value c =
    let told = reading-text c.args.bytes.now c.in-Ok.ensures.ok.0 ∙ ap value_if c.in-Ok.ensures.ok.1 in
    rw told c.kept.ensures

pub returns-in-Err-clause-value : goal.returns-in-Err-clause-value
returns-in-Err-clause-value c =
    inr (reading-refused c.args.bytes.now (c.in-Err.ensures.err (λ memory. let yes : c.is_memory.result ≡ true = c.is_memory.ensures.1 memory in grind (arith, yes, c.if-not-is_memory.true))))

pub returns-in-Ok-clause-nests : goal.returns-in-Ok-clause-nests
returns-in-Ok-clause-nests c = shallow c.kept.result _ c.kept.ensures c.in-Ok.ensures.nests
