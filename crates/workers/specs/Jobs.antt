-- What workers work with: a seat and a bench each.
use Rattle.std.specs.Prelude.{ℕ, List, map, IsSome}
use Rattle.std.specs.List.{All}
use Rattle.atomic_table.specs.Seated.{TableId}
use Rattle.turn_desk.specs.Seats.{IsSeated, known_to}
use Rattle.turn_desk.specs.declared.view.View.{View}
use Rattle.workers.specs.declared.sharing.Job.{Job}

module _ {X B A E R : Type 0} where
  -- what their seats know
  abbrev pub known_to_all : List (Job X B A E R) → List (View X E R)
  known_to_all jobs = map (λ job. known_to job.seat) jobs

  -- what lies at its bench
  abbrev pub bench_of : Job X B A E R → B
  bench_of job = job.bench

  -- The worker of the job has what the gate gave at its end.
  abbrev pub IsClosedAt : Job X B A E R → Type 0
  IsClosedAt job = IsSome job.closed

  -- the seat is of this desk, and stands between two questions
  abbrev pub IsSeatedAt : (ℕ → E → X → R → X → Type 0) → TableId → Job X B A E R → Type 0
  IsSeatedAt step desk job = IsSeated step desk job.seat

  -- The seats of the jobs are of this desk, and stand between two questions.
  abbrev pub AreSeated : (ℕ → E → X → R → X → Type 0) → TableId → List (Job X B A E R) → Type 0
  AreSeated step desk jobs = All (IsSeatedAt step desk) jobs
