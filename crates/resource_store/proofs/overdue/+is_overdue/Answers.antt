use Rattle.std.proofs.Common.{◌≡◌, ◌<◌, Some, None, ap, sym, ◌∙◌, rules}
use Rattle.tree_model.specs.Tree.{at}
use Rattle.tree_model.proofs.OverdueLemmas.{gone_here, gone_above, gone_nowhere, parent_found, parent_less}
use Rattle.resource_store.proofs.overdue.+is_overdue.Goals as goal

pub returns-then-is_due_in : goal.returns-then-is_due_in
returns-then-is_due_in t c = gone_here c.args.store.now c.args.moment c.requires.tree c.args.resource.now c.requires.stands (sym c.is_due_in.ensures ∙ c.if-is_due_in.true)

pub is_overdue-requires : goal.is_overdue-requires
is_overdue-requires t c =
    let up : at c.args.resource.now.parent c.args.store.now ≡ Some c.in-Some.parent.now = ap (λ n. at n c.args.store.now) (sym c.parent.ensures.value) ∙ sym c.in-Some.ensures.value in
    let less : c.in-Some.parent.now.number < c.args.resource.now.number = parent_less c.args.store.now c.args.moment c.requires.tree c.args.resource.now c.in-Some.parent.now c.requires.stands up in
    let found : at c.in-Some.parent.now.number c.args.store.now ≡ Some c.in-Some.parent.now = parent_found c.args.store.now c.args.moment c.requires.tree c.args.resource.now c.in-Some.parent.now up in
    search rules

pub returns-in-Some : goal.returns-in-Some
returns-in-Some t c =
    let up : at c.args.resource.now.parent c.args.store.now ≡ Some c.in-Some.parent.now = ap (λ n. at n c.args.store.now) (sym c.parent.ensures.value) ∙ sym c.in-Some.ensures.value in
    gone_above c.args.store.now c.args.moment c.requires.tree c.args.resource.now c.in-Some.parent.now c.is_overdue.result c.requires.stands (sym c.is_due_in.ensures ∙ c.if-is_due_in.false) up c.is_overdue.ensures

pub returns-in-None : goal.returns-in-None
returns-in-None t c =
    let none : at c.args.resource.now.parent c.args.store.now ≡ None = ap (λ n. at n c.args.store.now) (sym c.parent.ensures.value) ∙ sym c.in-None.ensures.value in
    gone_nowhere c.args.store.now c.args.moment c.requires.tree c.args.resource.now c.requires.stands (sym c.is_due_in.ensures ∙ c.if-is_due_in.false) none
