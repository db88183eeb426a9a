use Rattle.std.specs.Prelude.{filter_map}
use Rattle.std.proofs.Common.{◌∙◌, sym, ap}
use Rattle.tree_model.specs.Tree.{at}
use Rattle.resource_store.specs.Slots.{held}
use Rattle.resource_store.proofs.StoreLemmas.{filter_map_same, found_at}
use Rattle.resource_store.proofs.store.Store.numbers.Goals as goal

pub returns : goal.returns
returns c =
    let m = (held c.self.inside.resources.table) in
    let order = c.self.inside.order.items in
    ap (filter_map (λ n. at n c.args.self.now)) c.deref.ensures.value
    ∙ filter_map_same (λ n. at n c.args.self.now) m order
    (λ n listed. ap (at n) (sym c.self.view_is) ∙ found_at m n c.self.invariant.store.numbered order c.self.invariant.store.listed)
    ∙ c.self.view_is
