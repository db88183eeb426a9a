use Rattle.std.proofs.Common.{◌∙◌, ap, is_some}
use Rattle.m2m_names.specs.declared.attributes.Attr.TheVariants.{Exc}
use Rattle.resource_model.specs.Attributes.{value_of}
use Rattle.resource_model.specs.Resource.{ResourceData}
use Rattle.tree_model.specs.Tree.{has_counter, is_tree, recounted, recounted_at}
use Rattle.tree_model.proofs.RecountLemmas.{tree_recounted}
use Rattle.resource_store.specs.Slots.{held}
use Rattle.resource_store.specs.Store.{resources_of}
use Rattle.resource_store.proofs.StoreLemmas.{all_recounted, passes_at, store_written}
use Rattle.resource_store.proofs.store.Store.recount.Goals as goal

pub recount-requires-clause-there : goal.recount-requires-clause-there
recount-requires-clause-there c r some =
    passes_at (held c.self.inside.resources.table) c.self.inside.order.items c.self.inside.count c.args.number (λ (x : ResourceData). is_some (value_of Exc x.attrs)) c.self.invariant.store (ap (has_counter c.args.number) c.self.view_is ∙ c.requires.there) r some

pub invariant_of-self : goal.invariant_of-self
invariant_of-self c =
    let nodes = resources_of c.self.inside.order.items (held c.self.inside.resources.table) in
    record {
      store = store_written (held c.self.inside.resources.table) (held c.recount.new.self.table) c.args.number (recounted c.args.left) c.self.invariant.store.numbered (λ r e. e) c.recount.ensures c.self.inside.order.items c.self.inside.count c.self.invariant.store;
      tree = ap is_tree (all_recounted (held c.self.inside.resources.table) (held c.recount.new.self.table) c.self.inside.order.items c.self.inside.count c.args.number c.args.left c.self.invariant.store c.recount.ensures)
          ∙ tree_recounted nodes c.args.number c.args.left c.self.invariant.tree (ap (has_counter c.args.number) c.self.view_is ∙ c.requires.there);
    }

pub returns : goal.returns
returns c =
    all_recounted (held c.self.inside.resources.table) (held c.recount.new.self.table) c.self.inside.order.items c.self.inside.count c.args.number c.args.left c.self.invariant.store c.recount.ensures
    ∙ ap (recounted_at c.args.number c.args.left) c.self.view_is
