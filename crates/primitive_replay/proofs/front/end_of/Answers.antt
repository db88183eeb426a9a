use Rattle.std.proofs.Common.{subst}
use Rattle.memchr.specs.Find.{IsFirstByte, is_byte}
use Rattle.primitive_replay.proofs.LineLemmas.{end_searched, none_searched}
use Rattle.primitive_replay.proofs.front.end_of.Goals as goal

pub returns-in-Some-clause-value : goal.returns-in-Some-clause-value
returns-in-Some-clause-value c = end_searched _ _ (subst (IsFirstByte (is_byte 10) c.args.bytes.now) c.in-Some.is c.memchr.ensures)

pub returns-in-None-clause-value : goal.returns-in-None-clause-value
returns-in-None-clause-value c = none_searched _ (subst (IsFirstByte (is_byte 10) c.args.bytes.now) c.in-None.is c.memchr.ensures)
