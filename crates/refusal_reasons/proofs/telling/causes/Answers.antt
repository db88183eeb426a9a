use Rattle.std.proofs.Common.{◌≡◌, IfOk, subst, Global, Vec}
use Rattle.refusal_reasons.specs.Causes.{all_causes, left_among}
use Rattle.refusal_reasons.specs.declared.cause.Cause.{Cause}
use Rattle.refusal_reasons.specs.declared.facts.Facts.{Facts}
use Rattle.refusal_reasons.proofs.telling.causes.Goals as goal

pub returns : goal.returns
returns c =
    subst (λ (f : Facts). IfOk c.left_among.result (λ (left : Vec Cause Global). left.items ≡ left_among f c.args.code all_causes))
    c.in_ok-facts.ensures c.left_among.ensures
