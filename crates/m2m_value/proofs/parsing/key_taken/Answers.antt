use Rattle.std.proofs.Common.{IsUtf8, sym, subst, ◌∙◌}
use Rattle.m2m_value.proofs.parsing.key_taken.Goals as goal

pub returns-in-Some-clause-utf8 : goal.returns-in-Some-clause-utf8
returns-in-Some-clause-utf8 c = subst IsUtf8 (sym (c.named.ensures ∙ c.in-Some.ensures)) c.as_bytes.ensures.utf8
