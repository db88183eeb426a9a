use Rattle.std.proofs.Common.{◌≡◌, ◌∷◌, ◌++◌, List, length}
use Rattle.std.specs.List.{All}
use Rattle.std.specs.Vec.Iter.{into_iter_items, into_iter_len}
use Rattle.turn_desk.specs.Seats.{IsSeated, known_to}
use Rattle.workers.specs.Jobs.{known_to_all, AreSeated, IsClosedAt}
use Rattle.workers.specs.Shares.{HasGoneOn, PassesOn, all_own}
use Rattle.workers.proofs.SharesLemmas.{Sees}
use Rattle.workers.proofs.sharing.joined_seat.Given as goal

abbrev pub invariant-loop-job : goal.invariant-loop-job
invariant-loop-job g l =
    IsSeated g.O.Object.step l.desk.table.shared.table_id l.all
    × AreSeated g.O.Object.step l.desk.table.shared.table_id
    (into_iter_items l.job-iterator)
    × All IsClosedAt (into_iter_items l.job-iterator)
    × Sees (known_to l.all) (known_to_all (into_iter_items l.job-iterator)) (known_to_all l.fn.jobs.items)
    × ((known_to l.all).own ++ all_own (known_to_all (into_iter_items l.job-iterator))
    ≡ (known_to l.fn.seat).own ++ all_own (known_to_all l.fn.jobs.items))
    × HasGoneOn (known_to l.fn.seat) (known_to l.all)
    × ((others : List _) → PassesOn (known_to l.fn.seat ∷ (known_to_all l.fn.jobs.items ++ others))
    (known_to l.all ∷ (known_to_all (into_iter_items l.job-iterator) ++ others)))
    × (into_iter_len l.job-iterator ≡ length (into_iter_items l.job-iterator))
