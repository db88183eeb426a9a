use Rattle.std.proofs.Common.{◌≡◌, ◌+◌, ◌<◌, ◌∷◌, ◌||◌, ◌==◌, length, get_or, drop, drop-cons, add-one, sym, ap, ◌∙◌, arith}
use Rattle.std.specs.BTreeSet.{contains_by}
use Rattle.std.specs.List.{list_any}
use Rattle.std.specs.Ordering.{nat_cmp}
use Rattle.retrieve_discover.proofs.AskedLemmas.{one_number_more}
use Rattle.retrieve_discover.proofs.asked.number_set.Goals as goal

pub loop-number-preserved : goal.loop-number-preserved
loop-number-preserved c =
    let numbers = c.args.numbers.now in
    let k = c.loop-number.number-index in
    let number = get_or numbers k 0 in
    let below : k < length numbers = omega arith in
    let split : drop k numbers ≡ number ∷ drop (k + 1) numbers = rw add-one (drop-cons numbers k 0 below) in
    one_number_more number c.loop-number.set c.insert.new.self (drop (k + 1) numbers) numbers c.in_ok-insert.ensures.updates
    (λ n. ap (λ left. contains_by (nat_cmp n) c.loop-number.set || list_any (λ m. m == n) left) (sym split) ∙ c.loop-number.invariant n)
