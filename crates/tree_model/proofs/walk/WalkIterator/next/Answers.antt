use Rattle.std.proofs.Common.{◌≡◌, ◌∷◌, [], None, Some, option_map, Bor, sym, ap, ◌∙◌, subst}
use Rattle.std.specs.Iterator.{YieldsFirstRef}
use Rattle.resource_model.specs.Resource.{ResourceData}
use Rattle.tree_model.specs.Tree.{all_after, next_after}
use Rattle.tree_model.proofs.OrderLemmas.{tree_ascends}
use Rattle.tree_model.proofs.WalkLemmas.{all_after_zero, behind, progress, step_none, step_some}
use Rattle.tree_model.proofs.walk.WalkIterator.next.Goals as goal

pub returns-in_err-next-clause-steps : goal.returns-in_err-next-clause-steps
returns-in_err-next-clause-steps g c =
    let nodes = g.T.Tree.nodes c.self.inside.tree.now in
    let none : None ≡ next_after c.unwrap_or.result nodes = ap (option_map (λ (r : Bor ResourceData). r.now)) (sym c.in_err-next.was) ∙ c.after.ensures.value in
    let left = behind c.self.inside.last c.unwrap_or.result nodes c.args.self.now (all_after_zero nodes c.after.ensures.tree) c.unwrap_or.ensures c.self.view_is in
    let end : c.args.self.now ≡ [] = step_none c.unwrap_or.result nodes c.args.self.now left none in
    subst (λ r. YieldsFirstRef (λ rest. rest) c.args.self.now r c.args.self.now) (sym c.from_residual.ensures) (end, end)

pub returns-clause-steps : goal.returns-clause-steps
returns-clause-steps g c =
    let nodes = g.T.Tree.nodes c.self.inside.tree.now in
    let some : Some c.in_ok-next.next.now ≡ next_after c.unwrap_or.result nodes = ap (option_map (λ (r : Bor ResourceData). r.now)) (sym c.in_ok-next.was) ∙ c.after.ensures.value in
    let left = behind c.self.inside.last c.unwrap_or.result nodes c.args.self.now (all_after_zero nodes c.after.ensures.tree) c.unwrap_or.ensures c.self.view_is in
    step_some c.unwrap_or.result nodes c.args.self.now c.in_ok-next.next.now (tree_ascends nodes c.after.ensures.tree) left some
    ∙ ap (λ k. c.in_ok-next.next.now ∷ all_after k nodes) (sym c.number.ensures.value)

pub returns-clause-goes : goal.returns-clause-goes
returns-clause-goes g c = progress _ (λ _. tt) _ _ (Some c.in_ok-next.next) (returns-clause-steps g c)
