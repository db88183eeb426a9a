use Rattle.std.proofs.Common.{List, ap, ◌∙◌, ◌≡◌, Some, option_map}
use Rattle.resource_model.specs.Resource.{ResourceData}
use Rattle.tree_model.specs.Tree.{at, standing, is_tree}
use Rattle.tree_model.proofs.GrowthLemmas.{ascending_from_tree}
use Rattle.tree_model.proofs.KeptLemmas.{is_tree-replaced}
use Rattle.resource_list.proofs.nodes.Nodes.replace.Goals as goal

pub write_over-requires : goal.write_over-requires
write_over-requires c = ascending_from_tree c.self.inside.resources.items c.self.invariant

pub invariant_of-self : goal.invariant_of-self
invariant_of-self c =
    let same : option_map standing (at c.args.resource.number c.self.inside.resources.items) ≡ Some (standing c.args.resource) = ap (λ (nodes : List ResourceData). option_map standing (at c.args.resource.number nodes)) c.self.view_is ∙ c.requires in
    ap is_tree c.write_over.ensures ∙ is_tree-replaced c.args.resource c.self.inside.resources.items same ∙ c.self.invariant
