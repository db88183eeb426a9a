use Rattle.std.proofs.Common.{List, sym, ◌∙◌, subst}
use Rattle.resource_model.specs.Attributes.{Row, AreInOrder, HoldsRow}
use Rattle.resource_model.proofs.AttributeLemmas.{remove-HoldsRow, in_order-without_value}
use Rattle.resource_model.proofs.attrs.take_out.Goals as goal

pub returns-in-Ok-clause-order : goal.returns-in-Ok-clause-order
returns-in-Ok-clause-order c =
    let held : HoldsRow c.args.attr c.args.rows.now.items c.in-Ok.at = subst (λ (rows : List Row). HoldsRow c.args.attr rows c.in-Ok.at) c.deref.ensures.value c.in-Ok.ensures in
    subst AreInOrder (sym (c.remove-row.ensures.items ∙ remove-HoldsRow c.args.attr c.args.rows.now.items c.in-Ok.at held)) (in_order-without_value c.args.attr c.args.rows.now.items c.requires)
