use Rattle.std.proofs.Common.{◌≡◌, ◌&&◌, Some, Bool, not, ℕ, ap, sym, ◌∙◌}
use Rattle.tree_model.specs.Tree.{at, has, live}
use Rattle.tree_model.proofs.TreeLemmas.{at_has, at_number, has_from_at}
use Rattle.resource_store.proofs.overdue.is_overdue_at.Goals as goal

pub is_overdue-requires-clause-stands : goal.is_overdue-requires-clause-stands
is_overdue-requires-clause-stands c =
    let found : at c.args.number c.args.store.now ≡ Some c.in-Some.resource.now = sym c.in-Some.ensures.value in
    ap (λ n. at n c.args.store.now) (at_number c.args.number c.args.store.now c.in-Some.resource.now found) ∙ found

pub returns-in-Some : goal.returns-in-Some
returns-in-Some c =
    let nodes = c.args.store.now in
    let found : at c.args.number nodes ≡ Some c.in-Some.resource.now = sym c.in-Some.ensures.value in
    c.is_overdue.ensures
    ∙ ap (λ (n : ℕ). not (has n (live c.args.moment nodes))) (at_number c.args.number nodes c.in-Some.resource.now found)
    ∙ ap (λ (b : Bool). b && not (has c.args.number (live c.args.moment nodes))) (sym (at_has c.args.number nodes c.in-Some.resource.now found))

pub returns-in-None : goal.returns-in-None
returns-in-None c =
    let nodes = c.args.store.now in
    ap (λ (b : Bool). b && not (has c.args.number (live c.args.moment nodes))) (sym (has_from_at c.args.number nodes (sym c.in-None.ensures.value)))
