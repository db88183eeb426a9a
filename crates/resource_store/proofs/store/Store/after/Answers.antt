use Rattle.std.specs.Prelude.{nat_lt}
use Rattle.std.proofs.Common.{◌≡◌, ◌∙◌, ◌-◌, ℕ, List, ap, drop, take, length, arith, rules}
use Rattle.std.proofs.lemmas.List.{length-drop, take_all}
use Rattle.std.specs.List.{filter, slice_get}
use Rattle.tree_model.specs.Tree.{next_after}
use Rattle.resource_store.specs.Slots.{held}
use Rattle.resource_store.specs.Store.{resources_of}
use Rattle.resource_store.proofs.StoreLemmas.{after_at}
use Rattle.resource_store.proofs.store.Store.after.Goals as goal

pub returns-clause-value : goal.returns-clause-value
returns-clause-value c =
    let order = c.self.inside.order.items in
    let m = (held c.self.inside.resources.table) in
    let place = c.place_after-place.result in
    let later : drop place order ≡ filter (nat_lt c.args.number) order = search rules in
    let cut : take (length order - place) (drop place order) ≡ drop place order = take_all (length order - place) (drop place order) (let size : length (drop place order) ≡ length order - place = length-drop place order in omega arith) in
    let is : take (length c.deref-2.result.now - place) (drop place c.deref-2.result.now) ≡ filter (nat_lt c.args.number) order = ap (λ (ns : List ℕ). take (length ns - place) (drop place ns)) c.deref-2.ensures.value ∙ cut ∙ later in
    c.nth_of.ensures
    ∙ ap (λ (ns : List ℕ). slice_get (resources_of ns m) 0) is
    ∙ after_at m c.args.number c.self.invariant.store.numbered order
    ∙ ap (next_after c.args.number) c.self.view_is
