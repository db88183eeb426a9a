use Rattle.std.proofs.Common.{◌≡◌, ◌+◌, ◌-◌, length, sym, ap, ◌∙◌, arith}
use Rattle.std.specs.Ordering.{is_lt}
use Rattle.resource_model.proofs.AttributeLemmas.{behind_last}
use Rattle.resource_model.proofs.attrs.is_behind.Goals as goal

pub returns-else-is_empty : goal.returns-else-is_empty
returns-else-is_empty c less =
    let rows = c.args.rows.now in
    let last : length rows ≡ (length rows - 1) + 1 = grind arith in
    behind_last c.args.attr rows (length rows - 1) c.index-rows-rows.result c.requires last c.index-rows-rows.is (ap is_lt (sym c.row_order.ensures) ∙ sym c.is_lt.ensures ∙ less)
