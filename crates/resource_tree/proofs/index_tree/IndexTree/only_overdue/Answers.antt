use Rattle.std.proofs.Common.{◌≡◌, List, [], ◌∷◌, refl, ap, sym, ◌∙◌, subst}
use Rattle.std.proofs.lemmas.Option.{same_Some}
use Rattle.resource_model.specs.Resource.{ResourceData}
use Rattle.tree_model.specs.Tree.{overdue_numbers}
use Rattle.resource_dues.specs.Dues.{IsDueLeaf}
use Rattle.resource_dues.proofs.DuesLemmas.{one_overdue}
use Rattle.resource_tree.proofs.index_tree.IndexTree.only_overdue.Goals as goal

pub returns : goal.returns
returns c n is =
    let nodes = c.self.inside.list in
    let number = c.in_ok-number.number in
    let leaf : IsDueLeaf number c.args.moment nodes = subst (λ (ns : List ResourceData). IsDueLeaf number c.args.moment ns) (sym c.self.view_is) (c.if-not-is_due_leaf.ensures refl) in
    subst (λ (ns : List ResourceData). overdue_numbers c.args.moment ns ≡ number ∷ []) c.self.view_is
    (one_overdue nodes number c.args.moment c.self.invariant.tree leaf (λ r d found when low. c.in_ok-number.ensures number d r.number refl low (c.self.invariant.told c.if-not-self.false r d found when)))
    ∙ ap (λ k. k ∷ []) (same_Some number n is)
