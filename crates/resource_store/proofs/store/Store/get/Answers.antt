use Rattle.std.proofs.Common.{◌∙◌, sym, ap}
use Rattle.tree_model.specs.Tree.{at}
use Rattle.resource_store.specs.Slots.{held}
use Rattle.resource_store.proofs.StoreLemmas.{found_at}
use Rattle.resource_store.proofs.store.Store.get.Goals as goal

pub returns-clause-value : goal.returns-clause-value
returns-clause-value c =
    c.get.ensures
    ∙ sym (found_at (held c.self.inside.resources.table) c.args.number c.self.invariant.store.numbered c.self.inside.order.items c.self.invariant.store.listed)
    ∙ ap (at c.args.number) c.self.view_is
