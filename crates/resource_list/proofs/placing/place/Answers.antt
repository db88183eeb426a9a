use Rattle.std.proofs.Common.{rules}
use Rattle.std.proofs.lemmas.Fn.{always_returns_same}
use Rattle.std.specs.Ordering.{nat_cmp}
use Rattle.resource_list.proofs.PlaceLemmas.{searched}
use Rattle.resource_list.proofs.placing.place.Goals as goal

pub returns : goal.returns
returns c =
    let found = c.binary_search_by.ensures.position (λ r. nat_cmp r.number c.args.number) (always_returns_same _ _ _ (λ a r g called. search rules)) in
    searched c.args.number c.args.resources.now c.binary_search_by.result c.requires c.binary_search_by.ensures.bound found
