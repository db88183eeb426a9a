use Rattle.std.proofs.Common.{◌≡◌, List, Some, option_map, ap, sym, ◌∙◌, subst}
use Rattle.resource_model.specs.Resource.{ResourceData}
use Rattle.tree_model.specs.Tree.{at, standing}
use Rattle.tree_model.proofs.KeptLemmas.{is_tree-replaced}
use Rattle.resource_tree.specs.Indexed.{IsIndexed}
use Rattle.resource_names.proofs.NameLemmas.{named_replaced}
use Rattle.resource_tree.proofs.index_tree.IndexTreeTree.replace.Goals as goal

pub invariant_of-self : goal.invariant_of-self
invariant_of-self c =
    let stood : option_map standing (at c.args.resource.number c.self.inside.list) ≡ Some (standing c.args.resource) = ap (λ (ns : List ResourceData). option_map standing (at c.args.resource.number ns)) c.self.view_is ∙ c.requires in
    subst (λ (nodes : List ResourceData). IsIndexed nodes c.replace.new.self c.self.inside.named c.replace-2.new.self) (sym c.replace-3.ensures) (record {
      tree = is_tree-replaced c.args.resource c.self.inside.list stood ∙ c.self.invariant.tree;
      queues = c.replace.ensures;
      names = named_replaced c.self.inside.list c.args.resource stood c.self.inside.named c.self.invariant.names;
      told = c.replace-2.ensures;
    })
