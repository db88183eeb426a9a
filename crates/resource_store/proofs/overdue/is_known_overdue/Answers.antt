use Rattle.std.proofs.Common.{nat_eq, sym, ap, ◌∙◌}
use Rattle.std.specs.List.{list_any}
use Rattle.tree_model.proofs.OverdueLemmas.{gone_here}
use Rattle.resource_store.proofs.KnownLemmas.{by_parent}
use Rattle.resource_store.proofs.overdue.is_known_overdue.Goals as goal

pub returns-then-is_due_in : goal.returns-then-is_due_in
returns-then-is_due_in c = gone_here c.args.store.now c.args.moment c.requires.tree c.args.resource.now c.requires.stands (sym c.is_due_in.ensures ∙ c.if-is_due_in.true)

pub returns : goal.returns
returns c =
    c.is_among.ensures
    ∙ ap (λ n. list_any (nat_eq n) c.args.overdue.now) c.parent.ensures.value
    ∙ by_parent c.args.store.now c.args.moment c.requires.tree c.args.resource.now c.args.overdue.now c.requires.stands (sym c.is_due_in.ensures ∙ c.if-is_due_in.false) c.requires.known
