use Rattle.std.specs.Prelude.{nat_lt}
use Rattle.std.proofs.Common.{◌≡◌, ℕ, List, true, ap, ◌∙◌, subst}
use Rattle.resource_model.specs.Resource.{ResourceData}
use Rattle.tree_model.specs.Tree.{is_tree, level_of}
use Rattle.tree_model.proofs.GrowthLemmas.{tree_from_well_formed}
use Rattle.entity_model.specs.Entity.{EntityData}
use Rattle.request_rules.proofs.DepthLemmas.{less_deep_below}
use Rattle.request_rules.proofs.limiting.is_above_the_deepest.Goals as goal

pub is_less_deep-requires : goal.is_less_deep-requires
is_less_deep-requires g c = c.entity.invariant.tree

pub returns : goal.returns
returns g c =
    let r = c.args.resource.now in
    let inside : List ResourceData = g.T.Tree.nodes c.entity.inside.tree in
    let same : inside ≡ c.args.entity.now.nodes = ap (λ (e : EntityData). e.nodes) c.entity.view_is in
    let tree : is_tree c.args.entity.now.nodes ≡ true = subst (λ (nodes : List ResourceData). is_tree nodes ≡ true) same (tree_from_well_formed inside c.entity.invariant.tree) in
    c.is_less_deep.ensures
    ∙ ap (λ (n : ℕ). nat_lt (level_of n inside) 31) c.parent.ensures.value
    ∙ ap (λ (nodes : List ResourceData). nat_lt (level_of r.parent nodes) 31) same
    ∙ less_deep_below c.args.entity.now.nodes r tree c.requires
