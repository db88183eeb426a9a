use Rattle.std.proofs.Common.{◌≡◌, ◌<◌, ℕ, length, Some, sym, subst, arith, List}
use Rattle.std.specs.List.{slice_get}
use Rattle.resource_tree.specs.Queue.{without_number}
use Rattle.resource_tree.proofs.QueueLemmas.{not_found, place_found}
use Rattle.resource_tree.proofs.queue.Queue.place_of.Goals as goal

pub returns-in-Ok : goal.returns-in-Ok
returns-in-Ok c =
    let numbers = c.self.inside.numbers.items in
    let inside : c.in-Ok.at < length numbers = omega (arith, c.in-Ok.ensures.bound, c.self.inside.numbers.ok.0) in
    subst (λ (ns : List ℕ). slice_get ns c.in-Ok.at ≡ Some c.args.number) c.self.view_is
    (place_found c.args.number numbers c.in-Ok.at inside c.in-Ok.ensures.position)

pub returns-in-Err : goal.returns-in-Err
returns-in-Err c =
    subst (λ (ns : List ℕ). without_number c.args.number ns ≡ ns) c.self.view_is
    (sym (not_found c.args.number c.self.inside.numbers.items c.in-Err.field-0 c.self.invariant c.in-Err.ensures.position))
