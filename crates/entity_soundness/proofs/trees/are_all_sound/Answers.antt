use Rattle.std.proofs.Common.{◌≡◌, ◌&&◌, true, false, List, ◌∷◌, Bool, sym, ap, ◌∙◌}
use Rattle.std.specs.List.{list_all}
use Rattle.resource_model.specs.Resource.{ResourceData}
use Rattle.entity_soundness.specs.Tested.{is_sound}
use Rattle.entity_soundness.proofs.trees.are_all_sound.Goals as goal

pub loop-resource-preserved : goal.loop-resource-preserved
loop-resource-preserved g c =
    let nodes = g.T.Tree.nodes c.args.tree.now in
    let p : ResourceData → Bool = is_sound c.args.home.now nodes c.args.next c.args.last in
    let here : true ≡ p c.in-Some.resource.now = sym c.if-not-is_sound.false ∙ c.is_sound.ensures in
    ap (λ b. b && list_all p c.next.new.self) here ∙ sym (ap (list_all p) c.in-Some.ensures.steps) ∙ c.loop-resource.invariant
