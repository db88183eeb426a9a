use Rattle.std.proofs.Common.{◌≡◌, [], None, Some, option_map, Bor, sym, ap, ◌∙◌, subst}
use Rattle.std.specs.Iterator.{YieldsFirstRef}
use Rattle.std.specs.List.{slice_get}
use Rattle.resource_model.specs.Resource.{ResourceData}
use Rattle.tree_model.specs.Tree.{instances_of}
use Rattle.tree_model.proofs.StepLemmas.{dropped_none, dropped_some}
use Rattle.tree_model.proofs.WalkLemmas.{progress}
use Rattle.tree_model.proofs.walk.InstancesIterator.next.Goals as goal

pub returns-in_err-next-clause-steps : goal.returns-in_err-next-clause-steps
returns-in_err-next-clause-steps g c =
    let rs = instances_of c.self.inside.container (g.T.Tree.nodes c.self.inside.tree.now) in
    let none : None ≡ slice_get rs c.self.inside.place = ap (option_map (λ (r : Bor ResourceData). r.now)) (sym c.in_err-next.was) ∙ c.instance_at.ensures.value in
    let end : c.args.self.now ≡ [] = sym c.self.view_is ∙ dropped_none rs c.self.inside.place (sym none) in
    subst (λ r. YieldsFirstRef (λ rest. rest) c.args.self.now r c.args.self.now) (sym c.from_residual.ensures) (end, end)

pub returns-clause-steps : goal.returns-clause-steps
returns-clause-steps g c =
    let rs = instances_of c.self.inside.container (g.T.Tree.nodes c.self.inside.tree.now) in
    let some : Some c.in_ok-next.next.now ≡ slice_get rs c.self.inside.place = ap (option_map (λ (r : Bor ResourceData). r.now)) (sym c.in_ok-next.was) ∙ c.instance_at.ensures.value in
    sym c.self.view_is ∙ dropped_some rs c.self.inside.place c.in_ok-next.next.now (sym some)

pub returns-clause-goes : goal.returns-clause-goes
returns-clause-goes g c = progress _ (λ _. tt) _ _ (Some c.in_ok-next.next) (returns-clause-steps g c)
