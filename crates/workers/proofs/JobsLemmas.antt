-- Jobs that are made, one for each bench.
use Rattle.std.proofs.Common.{◌≡◌, List, [], ◌∷◌, ◌++◌, map, sym, ap, ◌∙◌, subst, append_assoc}
use Rattle.std.specs.List.{All}
use Rattle.std.proofs.lemmas.List.{map-append}
use Rattle.std.proofs.lemmas.List.Elements.{All-head, All-tail, All-nil, All-cons, All-push}
use Rattle.turn_desk.specs.declared.view.View.{View}
use Rattle.turn_desk.specs.Seats.{known_to}
use Rattle.turn_desk.specs.Shared.{sibling}
use Rattle.workers.specs.declared.sharing.Job.{Job}
use Rattle.workers.specs.Jobs.{known_to_all, bench_of}
use Rattle.workers.specs.Shares.{HasNone}

module _ {X B A E R : Type 0} where
  -- a job for one bench more
  pub benches_more : (jobs : List (Job X B A E R)) {new : List (Job X B A E R)} (job : Job X B A E R) {bench : B} {left rest all : List B}
      → new ≡ jobs ++ job ∷ [] → job.bench ≡ bench → left ≡ bench ∷ rest
      → map bench_of jobs ++ left ≡ all → map bench_of new ++ rest ≡ all
  benches_more jobs {new} job {bench} {left} {rest} {all} e b l h =
      ap (λ js. map bench_of js ++ rest) e
      ∙ ap (λ bs. bs ++ rest) (map-append bench_of jobs (job ∷ []))
      ∙ append_assoc (map bench_of jobs) (job.bench ∷ []) rest
      ∙ ap (λ k. map bench_of jobs ++ k ∷ rest) b
      ∙ sym (ap (λ bs. map bench_of jobs ++ bs) l)
      ∙ h

  -- its seat has no entries of its own
  pub fresh_more : (jobs : List (Job X B A E R)) {new : List (Job X B A E R)} (job : Job X B A E R) (v : View X E R)
      → new ≡ jobs ++ job ∷ [] → known_to job.seat ≡ sibling v
      → All HasNone (known_to_all jobs) → All HasNone (known_to_all new)
  fresh_more jobs {new} job v e s h =
      subst (λ js. All HasNone (known_to_all js)) (sym e)
      (subst (All HasNone) (sym (map-append (λ (j : Job X B A E R). known_to j.seat) jobs (job ∷ [])))
      (All-push HasNone (known_to_all jobs) (known_to job.seat) h (ap (λ w. w.own) s)))

-- ---- all jobs but the last, and the last

module _ {A : Type 0} (P : A → Type 0) where
  all_front : (xs : List A) (x : A) → All P (xs ++ x ∷ []) → All P xs
  all_front [] x h = All-nil P
  all_front (y ∷ ys) x h =
      All-cons P y ys (All-head P y (ys ++ x ∷ []) h) (all_front ys x (All-tail P y (ys ++ x ∷ []) h))

  all_last : (xs : List A) (x : A) → All P (xs ++ x ∷ []) → P x
  all_last [] x h = All-head P x [] h
  all_last (y ∷ ys) x h = all_last ys x (All-tail P y (ys ++ x ∷ []) h)

  pub front_of : {all : List A} (xs : List A) (x : A) → all ≡ xs ++ x ∷ [] → All P all → All P xs
  front_of xs x e h = all_front xs x (subst (All P) e h)

  pub last_of : {all : List A} (xs : List A) (x : A) → all ≡ xs ++ x ∷ [] → All P all → P x
  last_of xs x e h = all_last xs x (subst (All P) e h)

module _ {X B A E R : Type 0} {all : List (Job X B A E R)} (jobs : List (Job X B A E R)) (job : Job X B A E R)
    (e : all ≡ jobs ++ job ∷ []) where
  -- what their seats know
  pub known_popped : known_to_all all ≡ known_to_all jobs ++ known_to job.seat ∷ []
  known_popped = ap (λ js. known_to_all js) e ∙ map-append (λ (j : Job X B A E R). known_to j.seat) jobs (job ∷ [])

  -- and what lies at their benches
  pub benches_popped : {benches : List B} → map bench_of all ≡ benches → map bench_of jobs ++ job.bench ∷ [] ≡ benches
  benches_popped same = sym (ap (λ js. map bench_of js) e ∙ map-append bench_of jobs (job ∷ [])) ∙ same
