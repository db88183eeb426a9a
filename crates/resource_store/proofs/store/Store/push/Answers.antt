use Rattle.std.proofs.Common.{◌≤◌, ◌∙◌, [], ◌∷◌, ◌++◌, List, Some, cond, filter, length, sym, ap, arith}
use Rattle.std.specs.Prelude.{nat_eq, nat_lt}
use Rattle.resource_model.specs.Resource.{ResourceData}
use Rattle.tree_model.specs.Tree.{may_stand}
use Rattle.tree_model.proofs.GrowthLemmas.{next_fits}
use Rattle.resource_store.specs.Slots.{held}
use Rattle.resource_store.specs.Store.{resources_of}
use Rattle.resource_store.proofs.StoreLemmas.{filter_map_length, pushed_store, pushed_view, unchanged_store}
use Rattle.resource_store.proofs.store.Store.push.Goals as goal

pub overflow_add-self : goal.overflow_add-self
overflow_add-self c =
    let few : length (resources_of c.self.inside.order.items (held c.self.inside.resources.table)) ≤ length c.self.inside.order.items = filter_map_length (held c.self.inside.resources.table) c.self.inside.order.items in
    omega (arith, few, c.self.invariant.store.counted, c.self.inside.order.ok.0, c.self.inside.order.ok.1, c.self.inside.order.small)

pub invariant_of-self-in_err-insert : goal.invariant_of-self-in_err-insert
invariant_of-self-in_err-insert c = unchanged_store (held c.self.inside.resources.table) (held c.insert.new.self.table) c.self.inside.order.items c.reserve.new.self.items c.self.inside.count (λ q. c.in_err-insert.ensures.err q ∙ c.free_some.ensures q) c.in_default.ensures.items c.self.invariant

pub invariant_of-self-2 : goal.invariant_of-self-2
invariant_of-self-2 c =
    let m = held c.self.inside.resources.table in
    let next = next_fits _ c.args.resource (ap (λ (ns : List ResourceData). may_stand ns c.args.resource) c.self.view_is ∙ c.requires) in
    pushed_store m (held c.insert.new.self.table) c.args.resource c.number-number.result c.self.inside.order.items c.put_last.new.order.items c.self.inside.count c.self.invariant next c.number-number.ensures.value (λ q. c.in_ok-insert.ensures.ok q ∙ ap (λ o. cond (nat_eq c.args.resource.number q) (Some c.args.resource) o) (c.free_some.ensures q) ∙ ap (λ k. cond (nat_eq k q) (Some c.args.resource) (m q)) (sym c.number-number.ensures.value)) (c.put_last.ensures ∙ ap (λ ns. filter (λ n. nat_lt n c.number-number.result) ns ++ c.number-number.result ∷ []) c.in_default.ensures.items)

pub returns-clause-ok : goal.returns-clause-ok
returns-clause-ok c =
    let m = held c.self.inside.resources.table in
    let next = next_fits _ c.args.resource (ap (λ (ns : List ResourceData). may_stand ns c.args.resource) c.self.view_is ∙ c.requires) in
    pushed_view m (held c.insert.new.self.table) c.args.resource c.number-number.result c.self.inside.order.items c.put_last.new.order.items c.self.inside.count c.self.invariant next c.number-number.ensures.value (λ q. c.in_ok-insert.ensures.ok q ∙ ap (λ o. cond (nat_eq c.args.resource.number q) (Some c.args.resource) o) (c.free_some.ensures q) ∙ ap (λ k. cond (nat_eq k q) (Some c.args.resource) (m q)) (sym c.number-number.ensures.value)) (c.put_last.ensures ∙ ap (λ ns. filter (λ n. nat_lt n c.number-number.result) ns ++ c.number-number.result ∷ []) c.in_default.ensures.items)
    ∙ ap (λ (ns : List ResourceData). ns ++ c.args.resource ∷ []) c.self.view_is
