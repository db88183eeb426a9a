use Rattle.std.proofs.Common.{IsSome, List, true≢false, sym, ◌∙◌, subst}
use Rattle.resource_model.specs.Attributes.{Row, AreInOrder, HoldsRow, LacksRow}
use Rattle.resource_model.proofs.AttributeLemmas.{set-HoldsRow, insert-LacksRow, in_order-with_value}
use Rattle.resource_model.proofs.attrs.put.Goals as goal

pub returns-in-Ok-clause-ok : goal.returns-in-Ok-clause-ok
returns-in-Ok-clause-ok c =
    let held : HoldsRow c.args.attr c.args.rows.now.items c.in-Ok.at = subst (λ (rows : List Row). HoldsRow c.args.attr rows c.in-Ok.at) c.deref.ensures.value c.in-Ok.ensures in
    set-HoldsRow c.args.attr c.args.value c.args.rows.now.items c.in-Ok.at held

pub returns-in-Ok-clause-order : goal.returns-in-Ok-clause-order
returns-in-Ok-clause-order c =
    let held : HoldsRow c.args.attr c.args.rows.now.items c.in-Ok.at = subst (λ (rows : List Row). HoldsRow c.args.attr rows c.in-Ok.at) c.deref.ensures.value c.in-Ok.ensures in
    subst AreInOrder (sym (set-HoldsRow c.args.attr c.args.value c.args.rows.now.items c.in-Ok.at held)) (in_order-with_value c.args.attr c.args.value c.args.rows.now.items c.requires)

pub returns-in_ok-insert_row-in-Err-clause-order : goal.returns-in_ok-insert_row-in-Err-clause-order
returns-in_ok-insert_row-in-Err-clause-order c =
    let lacked : LacksRow c.args.attr c.args.rows.now.items c.in-Err.at = subst (λ (rows : List Row). LacksRow c.args.attr rows c.in-Err.at) c.deref.ensures.value c.in-Err.ensures in
    subst AreInOrder (sym (c.in_ok-insert_row-in-Err.ensures.ok ∙ insert-LacksRow c.args.attr c.args.value c.args.rows.now.items c.in-Err.at lacked)) (in_order-with_value c.args.attr c.args.value c.args.rows.now.items c.requires)

-- an attribute that has a value takes no memory
pub returns-in_err-insert_row-in-Err-clause-succeeds : goal.returns-in_err-insert_row-in-Err-clause-succeeds
returns-in_err-insert_row-in-Err-clause-succeeds c there =
    let lacked : LacksRow c.args.attr c.args.rows.now.items c.in-Err.at = subst (λ (rows : List Row). LacksRow c.args.attr rows c.in-Err.at) c.deref.ensures.value c.in-Err.ensures in
    absurd (true≢false (sym (subst IsSome lacked.value there)))
