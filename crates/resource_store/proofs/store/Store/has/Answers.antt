use Rattle.std.proofs.Common.{◌∙◌, ap}
use Rattle.resource_store.specs.Slots.{held}
use Rattle.resource_store.proofs.StoreLemmas.{found_at, has_found}
use Rattle.tree_model.specs.Tree.{has}
use Rattle.resource_store.proofs.store.Store.has.Goals as goal

pub returns : goal.returns
returns c =
    c.has.ensures
    ∙ has_found c.args.number _ _ (found_at (held c.self.inside.resources.table) c.args.number c.self.invariant.store.numbered c.self.inside.order.items c.self.invariant.store.listed)
    ∙ ap (has c.args.number) c.self.view_is
