use Rattle.std.proofs.Common.{rules, ◌∙◌}
use Rattle.addressing.proofs.PartLemmas.{written}
use Rattle.addressing.proofs.addr.with_slashes.Goals as goal

pub returns : goal.returns
returns c = c.of.ensures ∙ written c.loop-place.text.items c.loop-place.place c.args.parts.now (search rules) c.loop-place.invariant
