use Rattle.std.proofs.Common.{◌∙◌}
use Rattle.serde_json.specs.Read.{read}
use Rattle.serde_json.proofs.Nesting.{depth-read}
use Rattle.m2m_value.proofs.Answering.{reading-text}
use Rattle.m2m_value.proofs.Depths.{shallow_read}
use Rattle.m2m_value.proofs.reading.read_in.Goals as goal

pub returns-in-Some-clause-value : goal.returns-in-Some-clause-value
returns-in-Some-clause-value c = reading-text c.args.bytes.now c.in-Some.ensures.utf8 ∙ c.in-Some.ensures.ok

pub returns-in-Some-clause-nests : goal.returns-in-Some-clause-nests
returns-in-Some-clause-nests c =
    shallow_read (read c.args.bytes.now) c.in-Some.value c.in-Some.ensures.ok (depth-read c.args.bytes.now)
