use Rattle.std.proofs.Common.{◌≡◌, ◌++◌, Bool, List, ℕ, Some, not, ap, sym, ◌∙◌}
use Rattle.resource_model.specs.Resource.{ResourceData}
use Rattle.tree_model.specs.Tree.{at, has, live}
use Rattle.tree_model.proofs.TreeLemmas.{at_number}
use Rattle.resource_store.proofs.NextLemmas.{one_picked}
use Rattle.resource_store.proofs.overdue.push_if_overdue.Goals as goal

pub is_known_overdue-requires-clause-stands : goal.is_known_overdue-requires-clause-stands
is_known_overdue-requires-clause-stands c =
    let found : at c.args.number c.args.store.now ≡ Some c.in-Some.resource.now = sym c.in-Some.ensures.value in
    ap (λ n. at n c.args.store.now) (at_number c.args.number c.args.store.now c.in-Some.resource.now found) ∙ found

pub returns-in_ok-push-clause-ok : goal.returns-in_ok-push-clause-ok
returns-in_ok-push-clause-ok c =
    let goes : ResourceData → Bool = λ r. not (has r.number (live c.args.moment c.args.store.now)) in
    c.in_ok-push.ensures.items
    ∙ ap (λ (ns : List ℕ). c.args.overdue.now.items ++ ns)
    (sym (one_picked goes c.args.store.now c.args.number c.in-Some.resource.now (sym c.in-Some.ensures.value) (sym c.is_known_overdue.ensures ∙ c.if-is_known_overdue.true)))
