use Rattle.std.proofs.Common.{◌≡◌, take, filter}
use Rattle.refusal_reasons.specs.Causes.{is_left}
use Rattle.refusal_reasons.proofs.telling.left_among.Given as goal

-- those that are left among the causes so far
abbrev pub invariant-loop-cause : goal.invariant-loop-cause
invariant-loop-cause l = l.left.items ≡ filter (is_left l.facts l.code) (take l.cause-index l.causes)
