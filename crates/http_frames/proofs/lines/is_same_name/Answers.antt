use Rattle.std.proofs.Common.{sym, ◌∙◌}
use Rattle.http_frames.proofs.LinesLemmas.{is_same_name_from, same_name-alike}
use Rattle.http_frames.proofs.lines.is_same_name.Goals as goal

pub returns-then-eq : goal.returns-then-eq
returns-then-eq c = c.if-eq.true ∙ sym (same_name-alike c.args.name.now c.args.wanted.now (sym c.eq.ensures ∙ c.if-eq.true))

pub returns-else-eq : goal.returns-else-eq
returns-else-eq c = is_same_name_from c.eq_ignore_ascii_case.result _ _ c.eq_ignore_ascii_case.ensures.test
