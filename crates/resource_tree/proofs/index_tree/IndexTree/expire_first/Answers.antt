use Rattle.std.proofs.Common.{◌≡◌, ◌<◌, length, ap, ◌∙◌, arith, true, false}
use Rattle.resource_model.specs.Resource.{has_number}
use Rattle.std.specs.Option.{option_map_or}
use Rattle.tree_model.specs.Tree.{has_come, live, without}
use Rattle.resource_dues.specs.Dues.{due_at}
use Rattle.resource_dues.proofs.DuesLemmas.{due_goes, due_there}
use Rattle.resource_tree.proofs.RemovalLemmas.{fewer}
use Rattle.resource_tree.proofs.index_tree.IndexTree.expire_first.Goals as goal

pub returns-clause-live : goal.returns-clause-live
returns-clause-live c =
    let due : option_map_or (has_come c.args.moment) (due_at c.in-Some.number c.next_due.new.self) false ≡ true = ap (λ ns. option_map_or (has_come c.args.moment) (due_at c.in-Some.number ns) false) c.next_due.ensures.same ∙ c.next_due.ensures.due c.in-Some.number c.in-Some.is in
    ap (live c.args.moment) c.remove_one.ensures.value
    ∙ due_goes c.next_due.new.self c.in-Some.number c.args.moment c.remove_one.ensures.tree due
    ∙ ap (live c.args.moment) c.next_due.ensures.same

pub returns-clause-less : goal.returns-clause-less
returns-clause-less c told =
    let due : option_map_or (has_come c.args.moment) (due_at c.in-Some.number c.next_due.new.self) false ≡ true = ap (λ ns. option_map_or (has_come c.args.moment) (due_at c.in-Some.number ns) false) c.next_due.ensures.same ∙ c.next_due.ensures.due c.in-Some.number c.in-Some.is in
    let less : length (without (has_number c.in-Some.number) c.next_due.new.self) < length c.next_due.new.self = fewer c.in-Some.number c.next_due.new.self c.remove_one.ensures.tree (due_there c.next_due.new.self c.in-Some.number c.args.moment due) in
    omega (arith, less, ap length c.remove_one.ensures.value, ap length c.next_due.ensures.same)
