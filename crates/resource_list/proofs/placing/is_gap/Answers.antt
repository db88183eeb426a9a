use Rattle.std.proofs.Common.{sym, ◌∙◌}
use Rattle.resource_list.proofs.PlaceLemmas.{gap_told}
use Rattle.resource_list.proofs.placing.is_gap.Goals as goal

pub returns-then-is_above_last : goal.returns-then-is_above_last
returns-then-is_above_last c =
    gap_told c.is_below_next.result c.args.number c.args.resources.now c.args.place c.requires (sym c.is_above_last.ensures ∙ c.if-is_above_last.true) c.is_below_next.ensures
