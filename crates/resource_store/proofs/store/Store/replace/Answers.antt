use Rattle.std.proofs.Common.{◌≡◌, List, Some, option_map, refl, ap, ◌∙◌}
use Rattle.resource_model.specs.Resource.{ResourceData}
use Rattle.tree_model.specs.Tree.{at, is_tree, replaced, standing}
use Rattle.tree_model.proofs.KeptLemmas.{is_tree-replaced}
use Rattle.resource_store.specs.Slots.{held}
use Rattle.resource_store.specs.Store.{resources_of}
use Rattle.resource_store.proofs.StoreLemmas.{all_replaced, store_written}
use Rattle.resource_store.proofs.store.Store.replace.Goals as goal

pub invariant_of-self : goal.invariant_of-self
invariant_of-self c =
    let nodes = resources_of c.self.inside.order.items (held c.self.inside.resources.table) in
    let stood : option_map standing (at c.args.resource.number nodes) ≡ Some (standing c.args.resource) = ap (λ (ns : List ResourceData). option_map standing (at c.args.resource.number ns)) c.self.view_is ∙ c.requires in
    record {
      store = store_written (held c.self.inside.resources.table) (held c.write_over.new.self.table) c.args.resource.number (λ s. c.args.resource) c.self.invariant.store.numbered (λ s e. refl) c.write_over.ensures c.self.inside.order.items c.self.inside.count c.self.invariant.store;
      tree = ap is_tree (all_replaced (held c.self.inside.resources.table) (held c.write_over.new.self.table) c.self.inside.order.items c.self.inside.count c.args.resource c.self.invariant.store c.write_over.ensures)
          ∙ is_tree-replaced c.args.resource nodes stood ∙ c.self.invariant.tree;
    }

pub returns : goal.returns
returns c =
    all_replaced (held c.self.inside.resources.table) (held c.write_over.new.self.table) c.self.inside.order.items c.self.inside.count c.args.resource c.self.invariant.store c.write_over.ensures
    ∙ ap (replaced c.args.resource) c.self.view_is
