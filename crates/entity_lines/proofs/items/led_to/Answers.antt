use Rattle.std.proofs.Common.{IsUtf8, sym, subst}
use Rattle.entity_lines.proofs.items.led_to.Goals as goal

pub returns-in-Err-clause-none : goal.returns-in-Err-clause-none
returns-in-Err-clause-none c = λ utf8. c.in-Err.ensures.cases.0 (subst IsUtf8 (sym c.entries.ensures) utf8)
