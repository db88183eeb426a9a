use Rattle.std.proofs.Common.{◌≡◌, ◌∷◌, ◌++◌, ◌+◌, ◌≤◌, map, length, vec_len, vec_capacity}
use Rattle.std.specs.List.{All}
use Rattle.std.specs.Vec.Iter.{into_iter_items, into_iter_len}
use Rattle.turn_desk.specs.Seats.{IsSeated, known_to}
use Rattle.workers.specs.Jobs.{known_to_all, bench_of, AreSeated}
use Rattle.workers.specs.Shares.{HasGoneOn, AddUpTo, HasNone}
use Rattle.workers.proofs.sharing.jobs_at.Given as goal

abbrev pub invariant-loop-bench : goal.invariant-loop-bench
invariant-loop-bench g l =
    IsSeated g.O.Object.step l.desk.table.shared.table_id l.mine
    × AreSeated g.O.Object.step l.desk.table.shared.table_id l.jobs.items
    × HasGoneOn (known_to l.fn.seat) (known_to l.mine)
    × ((known_to l.mine).own ≡ (known_to l.fn.seat).own)
    × (map bench_of l.jobs.items ++ into_iter_items l.bench-iterator ≡ l.fn.benches.items)
    × All HasNone (known_to_all l.jobs.items)
    × AddUpTo (known_to l.fn.seat) (known_to l.mine ∷ known_to_all l.jobs.items)
    × (vec_len l.jobs + into_iter_len l.bench-iterator ≤ vec_capacity l.jobs)
    × (into_iter_len l.bench-iterator ≡ length (into_iter_items l.bench-iterator))
