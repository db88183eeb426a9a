use Rattle.std.proofs.Common.{List, sym, ap, ◌∙◌, subst}
use Rattle.resource_model.specs.Resource.{ResourceData}
use Rattle.tree_model.specs.Tree.{has_counter}
use Rattle.tree_model.proofs.RecountLemmas.{tree_recounted}
use Rattle.resource_tree.specs.Indexed.{IsIndexed}
use Rattle.resource_dues.proofs.DuesLemmas.{dues-recounted}
use Rattle.resource_tree.proofs.IndexLemmas.{kin-recounted}
use Rattle.resource_names.proofs.NameLemmas.{named_recounted}
use Rattle.resource_tree.proofs.index_tree.IndexTreeTree.recount.Goals as goal

pub invariant_of-self : goal.invariant_of-self
invariant_of-self c =
    subst (λ (nodes : List ResourceData). IsIndexed nodes c.self.inside.kin c.self.inside.named c.self.inside.dues) (sym c.recount.ensures) (record {
      tree = tree_recounted c.self.inside.list c.args.number c.args.left c.self.invariant.tree (ap (has_counter c.args.number) c.self.view_is ∙ c.requires.there);
      queues = kin-recounted c.self.inside.list c.args.number c.args.left c.self.inside.kin c.self.invariant.queues;
      names = named_recounted c.self.inside.list c.args.number c.args.left c.self.inside.named c.self.invariant.names;
      told = dues-recounted c.self.inside.list c.args.number c.args.left c.self.inside.dues c.self.invariant.tree c.self.invariant.told;
    })
