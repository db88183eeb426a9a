use Rattle.std.proofs.Common.{◌≡◌, ℕ, [], Some, sym, ap, ◌∙◌, subst}
use Rattle.subscription_match.specs.Notices.{notes_of_all}
use Rattle.tree_model.specs.Changes.{deletion_changes}
use Rattle.tree_model.specs.Tree.{at}
use Rattle.tree_model.proofs.TreeLemmas.{at_number}
use Rattle.create_delete.proofs.notifying.is_unheard.Goals as goal

pub is_unheard_from-requires-clause-stands : goal.is_unheard_from-requires-clause-stands
is_unheard_from-requires-clause-stands g c =
    let nodes = g.T.Tree.nodes c.args.tree.now in
    let r = c.in-Some.resource.now in
    let found : at c.args.target nodes ≡ Some r = sym c.in-Some.ensures.value in
    ap (λ (n : ℕ). at n nodes) (at_number c.args.target nodes r found) ∙ found

pub returns-in-Some : goal.returns-in-Some
returns-in-Some g c t home going =
    let nodes = g.T.Tree.nodes c.args.tree.now in
    let r = c.in-Some.resource.now in
    let found : at c.args.target nodes ≡ Some r = sym c.in-Some.ensures.value in
    subst (λ (n : ℕ). notes_of_all home nodes going (deletion_changes nodes n) ≡ []) (at_number c.args.target nodes r found) (c.is_unheard_from.ensures t home going)
