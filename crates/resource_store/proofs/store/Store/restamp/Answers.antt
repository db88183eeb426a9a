use Rattle.std.proofs.Common.{◌∙◌, ap, is_some}
use Rattle.m2m_names.specs.declared.attributes.Attr.TheVariants.{St}
use Rattle.resource_model.specs.Attributes.{value_of}
use Rattle.resource_model.specs.Resource.{ResourceData}
use Rattle.tree_model.specs.Tree.{has_state, is_tree, restamped, restamped_at}
use Rattle.tree_model.proofs.StampLemmas.{tree_restamped}
use Rattle.resource_store.specs.Slots.{held}
use Rattle.resource_store.specs.Store.{resources_of}
use Rattle.resource_store.proofs.StoreLemmas.{all_restamped, passes_at, store_written}
use Rattle.resource_store.proofs.store.Store.restamp.Goals as goal

pub restamp-requires-clause-there : goal.restamp-requires-clause-there
restamp-requires-clause-there c r some =
    passes_at (held c.self.inside.resources.table) c.self.inside.order.items c.self.inside.count c.args.number (λ (x : ResourceData). is_some (value_of St x.attrs)) c.self.invariant.store (ap (has_state c.args.number) c.self.view_is ∙ c.requires.there) r some

pub invariant_of-self : goal.invariant_of-self
invariant_of-self c =
    let nodes = resources_of c.self.inside.order.items (held c.self.inside.resources.table) in
    record {
      store = store_written (held c.self.inside.resources.table) (held c.restamp.new.self.table) c.args.number (restamped c.args.lt c.args.st) c.self.invariant.store.numbered (λ r e. e) c.restamp.ensures c.self.inside.order.items c.self.inside.count c.self.invariant.store;
      tree = ap is_tree (all_restamped (held c.self.inside.resources.table) (held c.restamp.new.self.table) c.self.inside.order.items c.self.inside.count c.args.number c.args.lt c.args.st c.self.invariant.store c.restamp.ensures)
          ∙ tree_restamped nodes c.args.number c.args.lt c.args.st c.self.invariant.tree (ap (has_state c.args.number) c.self.view_is ∙ c.requires.there);
    }

pub returns : goal.returns
returns c =
    all_restamped (held c.self.inside.resources.table) (held c.restamp.new.self.table) c.self.inside.order.items c.self.inside.count c.args.number c.args.lt c.args.st c.self.invariant.store c.restamp.ensures
    ∙ ap (restamped_at c.args.number c.args.lt c.args.st) c.self.view_is
