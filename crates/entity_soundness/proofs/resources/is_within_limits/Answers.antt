use Rattle.std.proofs.Common.{◌≡◌, sym, ◌∙◌}
use Rattle.entity_soundness.proofs.LimitLemmas.{limits_by_sizes}
use Rattle.entity_soundness.proofs.resources.is_within_limits.Goals as goal

pub returns-then-is_within : goal.returns-then-is_within
returns-then-is_within g c =
    let nodes = g.T.Tree.nodes c.args.tree.now in
    c.is_within-then-is_within.ensures
    ∙ limits_by_sizes nodes c.args.resource.now c.number-number.result c.instance_count.result c.instance_sizes.result c.of-limits.result
    (sym c.is.ensures ∙ c.if-not-is.false) c.number-number.ensures.value c.of-limits.ensures c.instance_count.ensures c.instance_sizes.ensures.value (sym c.is_within.ensures ∙ c.if-is_within.true)
