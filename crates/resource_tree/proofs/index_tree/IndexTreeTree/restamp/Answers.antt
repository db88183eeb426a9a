use Rattle.std.proofs.Common.{List, sym, ap, ◌∙◌, subst}
use Rattle.resource_model.specs.Resource.{ResourceData}
use Rattle.tree_model.specs.Tree.{has_state}
use Rattle.tree_model.proofs.StampLemmas.{tree_restamped}
use Rattle.resource_tree.specs.Indexed.{IsIndexed}
use Rattle.resource_dues.proofs.DuesLemmas.{dues-restamped}
use Rattle.resource_tree.proofs.IndexLemmas.{kin-restamped}
use Rattle.resource_names.proofs.NameLemmas.{named_restamped}
use Rattle.resource_tree.proofs.index_tree.IndexTreeTree.restamp.Goals as goal

pub invariant_of-self : goal.invariant_of-self
invariant_of-self c =
    subst (λ (nodes : List ResourceData). IsIndexed nodes c.self.inside.kin c.self.inside.named c.self.inside.dues) (sym c.restamp.ensures) (record {
      tree = tree_restamped c.self.inside.list c.args.number c.args.lt c.args.st c.self.invariant.tree (ap (has_state c.args.number) c.self.view_is ∙ c.requires.there);
      queues = kin-restamped c.self.inside.list c.args.number c.args.lt c.args.st c.self.inside.kin c.self.invariant.queues;
      names = named_restamped c.self.inside.list c.args.number c.args.lt c.args.st c.self.inside.named c.self.invariant.names;
      told = dues-restamped c.self.inside.list c.args.number c.args.lt c.args.st c.self.inside.dues c.self.invariant.tree c.self.invariant.told;
    })
