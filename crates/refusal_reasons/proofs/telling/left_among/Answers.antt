use Rattle.std.proofs.Common.{arith, rules}
use Rattle.std.proofs.lemmas.List.Elements.{filter_more}
use Rattle.std.proofs.lemmas.List.{append-nil, take_all}
use Rattle.refusal_reasons.specs.Causes.{is_left}
use Rattle.refusal_reasons.specs.declared.cause.Cause.TheVariants.{Form}
use Rattle.refusal_reasons.proofs.telling.left_among.Goals as goal

pub loop-cause-preserved : goal.loop-cause-preserved
loop-cause-preserved c =
    grind (arith, filter_more (is_left c.args.facts.now c.args.code) c.args.causes.now c.loop-cause.cause-index Form (omega arith), append-nil)

pub returns : goal.returns
returns c = search (rules, take_all)
