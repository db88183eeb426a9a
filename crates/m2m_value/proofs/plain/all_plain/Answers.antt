use Rattle.m2m_value.proofs.Escapes.{as_it_stands}
use Rattle.m2m_value.proofs.plain.all_plain.Goals as goal

pub returns-then-text-lt32 : goal.returns-then-text-lt32
returns-then-text-lt32 c = as_it_stands c.plain_short.result c.args.text.now c.plain_short.ensures

pub returns-else-text-lt32 : goal.returns-else-text-lt32
returns-else-text-lt32 c = as_it_stands c.plain_long.result c.args.text.now c.plain_long.ensures
