use Rattle.std.proofs.Common.{◌≡◌, ◌∙◌, ap}
use Rattle.std.specs.Prelude.{nat_lt}
use Rattle.tree_model.specs.Tree.{level_of}
use Rattle.entity_soundness.proofs.DepthLemmas.{shallow_is}
use Rattle.entity_soundness.proofs.resources.is_shallow.Goals as goal

pub returns : goal.returns
returns g c =
    let nodes = g.T.Tree.nodes c.args.tree.now in
    c.is_less_deep.ensures ∙ ap (λ n. nat_lt (level_of n nodes) 33) c.number.ensures.value ∙ shallow_is (level_of c.args.resource.now.number nodes) 32
