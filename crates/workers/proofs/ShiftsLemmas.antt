-- What workers did at their seats: visits one after another, and shifts that are put together.
use denote.Param.Members.{Shared}
use denote.Ref.{MutBor}
use Rattle.std.proofs.Common.{◌≡◌, ℕ, suc, ◌<◌, List, [], ◌∷◌, ◌++◌, length, map, take, drop, slice_index_or, refl, sym, ap, ◌∙◌, subst, arith}
use Rattle.std.specs.Fork.{ChangesEach}
use Rattle.std.specs.List.{All}
use Rattle.std.proofs.lemmas.List.Elements.{All-head, All-tail, All-nil, All-cons}
use Rattle.atomic_table.specs.Seated.{TableId}
use Rattle.turn_desk.specs.declared.shared.DeskSeat.{DeskSeat}
use Rattle.turn_desk.specs.declared.view.View.{View}
use Rattle.turn_desk.specs.Seats.{known_to}
use Rattle.workers.specs.declared.sharing.Job.{Job}
use Rattle.workers.specs.Jobs.{known_to_all, bench_of, IsClosedAt, IsSeatedAt, AreSeated}
use Rattle.workers.specs.Shares.{HasGrown, HaveGrown, HasNone, HasSeenAll, Pairwise, all_own}
use Rattle.workers.specs.Rounds.{HasMadeRounds}
use Rattle.workers.specs.Serving.{GainsByServing}
use Rattle.workers.specs.Shifts.{Visit, Shift, AttendsInTurn, HasAttended, WorksFrom, HasWorked, HaveWorked}
use Rattle.workers.proofs.SharesLemmas.{grown_self, grown_on, grown_seen, seen_on, written_whole}

-- ---- visits

module _ {S C B A : Type 0} (attends : S → C → B → S → A → B → Type 0) where
  -- one more visit
  turn_more : (seat : S) (bench : B) (visits : List (Visit C A)) (between : S) (aside : B) (v : Visit C A) (later : S) (left : B)
      → AttendsInTurn attends seat bench visits between aside
      → attends between v.conn aside later v.attended left
      → AttendsInTurn attends seat bench (visits ++ v ∷ []) later left
  turn_more seat bench [] between aside v later left h at = (
    later,
    left,
    subst (λ b. attends seat v.conn b later v.attended left) h.1
        (subst (λ s. attends s v.conn aside later v.attended left) h.0 at),
    (refl, refl),
  )
  turn_more seat bench (w ∷ visits) between aside v later left h at =
      (h.0, h.1, h.2, turn_more h.0 h.1 visits between aside v later left h.3 at)

module _ {X E R C B A : Type 0} {attends : DeskSeat X E R → C → B → DeskSeat X E R → A → B → Type 0} where
  -- a worker that has done nothing yet
  pub works_none : (seat : DeskSeat X E R) (bench : B) → WorksFrom attends seat bench seat bench
  works_none seat bench = record {
    visits = [];
    attended = record { attends_all = (refl, refl); grew = grown_self (known_to seat) };
  }

  -- and one that attended to one connection more
  pub works_more : {seat between later : DeskSeat X E R} {bench aside left : B} {conn : C} {attended : A}
      → WorksFrom attends seat bench between aside
      → attends between conn aside later attended left
      → HasGrown (known_to between) (known_to later)
      → WorksFrom attends seat bench later left
  works_more {seat} {between} {later} {bench} {aside} {left} {conn} {attended} w at grew =
      let visit : Visit C A = record { conn = conn; attended = attended } in record {
        visits = w.visits ++ visit ∷ [];
        attended = record {
          attends_all = turn_more attends seat bench w.visits between aside visit later left w.attended.attends_all at;
          grew = grown_on w.attended.grew grew;
        };
      }

-- ---- lists of the same length

module _ {A : Type 0} (P : A → A → Type 0) where
  -- what holds at each place holds pair by pair
  pub pairwise_at : (xs ys : List A) → length ys ≡ length xs
      → ((i : ℕ) (d : A) → i < length xs → P (slice_index_or xs i d) (slice_index_or ys i d)) → Pairwise P xs ys
  pairwise_at [] [] len each = tt
  pairwise_at [] (y ∷ ys) len each = absurd (omega (arith, len))
  pairwise_at (x ∷ xs) [] len each = absurd (omega (arith, len))
  pairwise_at (x ∷ xs) (y ∷ ys) len each = (
    each 0 x (omega arith),
    pairwise_at xs ys (omega (arith, len)) (λ i d l. each (suc i) d (omega (arith, l))),
  )

-- ---- what the workers left

module _ {X E R C B A : Type 0} (step : ℕ → E → X → R → X → Type 0) (desk : TableId)
    (attends : DeskSeat X E R → C → B → DeskSeat X E R → A → B → Type 0) where
  -- a worker has done its job
  abbrev pub IsDone : Job X B A E R → Job X B A E R → Type 0
  IsDone before after = IsSeatedAt step desk after × IsClosedAt after × HasWorked attends before after

  -- all workers have done theirs
  pub record AreDone (before after : List (Job X B A E R)) : Type 0 where
    pub seated : AreSeated step desk after
    pub closed : All IsClosedAt after
    pub worked : HaveWorked attends before after

  -- what is done at each place is done by all
  are_done : (before after : List (Job X B A E R)) → length after ≡ length before
      → ((i : ℕ) (d : Job X B A E R) → i < length before → IsDone (slice_index_or before i d) (slice_index_or after i d))
      → AreDone before after
  are_done before after len each = record {
    seated = λ k d l. (each k d (omega (arith, len, l))).0;
    closed = λ k d l. (each k d (omega (arith, len, l))).1;
    worked = pairwise_at (HasWorked attends) before after len (λ i d l. (each i d l).2);
  }

  -- each call of f does a job, and f was called with each
  pub left_done : {F : Type 0} (g : Shared F (ℕ × (MutBor (Job X B A E R) × Unit {0})) (Unit {0} × (MutBor (Job X B A E R) × Unit {0}))) (f : F)
      → ((i : ℕ) (p q : MutBor (Job X B A E R)) → g.post f (i, (p, tt)) (tt, (q, tt)) → IsDone p.now q.now)
      → {n : ℕ} {before now : List (Job X B A E R)} (new : List (Job X B A E R)) → now ≡ before → length before ≡ n → length new ≡ length now
      → ChangesEach g f now new → AreDone before (take n (new ++ drop (length new) before))
  left_done g f does {n} {before} {now} new same many len each =
      subst (λ l. AreDone l (take n (new ++ drop (length new) before))) same
      (subst (AreDone now) (written_whole n new before (omega (arith, len, ap length same, many)) many)
      (are_done now new len (λ i d l.
      let at = (each i d l).1 in
      subst (λ (j : Job X B A E R). IsDone j (slice_index_or new i d)) at.argument_is
      (subst (λ (k : Job X B A E R). IsDone at.argument.now k) at.left (does i at.argument at.after_call at.call)))))

-- ---- shifts

module _ {X E R C B A : Type 0} (attends : DeskSeat X E R → C → B → DeskSeat X E R → A → B → Type 0) where
  -- the shifts of these jobs
  record ShiftsOf (before after : List (Job X B A E R)) : Type 0 where
    shifts : List (Shift (DeskSeat X E R) C B A)
    worked : All (HasAttended attends) shifts
    fresh : All (λ s. HasNone (known_to s.seat)) shifts
    benches : map (λ s. s.bench) shifts ≡ map bench_of before
    later : map (λ s. known_to s.later) shifts ≡ known_to_all after

  shifts_of : (before after : List (Job X B A E R)) → HaveWorked attends before after
      → All HasNone (known_to_all before) → ShiftsOf before after
  shifts_of [] [] w none = record {
    shifts = [];
    worked = All-nil (HasAttended attends);
    fresh = All-nil (λ s. HasNone (known_to s.seat));
    benches = refl;
    later = refl;
  }
  shifts_of [] (k ∷ ks) w none = absurd w
  shifts_of (j ∷ js) [] w none = absurd w
  shifts_of (j ∷ js) (k ∷ ks) w none =
      let rest = shifts_of js ks w.1 (All-tail HasNone (known_to j.seat) (known_to_all js) none) in
      let one : Shift (DeskSeat X E R) C B A = record {
        seat = j.seat;
        bench = j.bench;
        visits = w.0.visits;
        later = k.seat;
        left = k.bench;
      } in record {
        shifts = one ∷ rest.shifts;
        worked = All-cons (HasAttended attends) one rest.shifts w.0.attended rest.worked;
        fresh = All-cons (λ s. HasNone (known_to s.seat)) one rest.shifts
            (All-head HasNone (known_to j.seat) (known_to_all js) none) rest.fresh;
        benches = ap (λ l. j.bench ∷ l) rest.benches;
        later = ap (λ l. known_to k.seat ∷ l) rest.later;
      }

  -- workers that attended have grown
  pub have_grown : (before after : List (Job X B A E R)) → HaveWorked attends before after
      → HaveGrown (known_to_all before) (known_to_all after)
  have_grown [] [] w = tt
  have_grown [] (k ∷ ks) w = absurd w
  have_grown (j ∷ js) [] w = absurd w
  have_grown (j ∷ js) (k ∷ ks) w = (w.0.attended.grew, have_grown js ks w.1)

  -- and so has who is beside them
  pub grown_beside : (vs ws : List (View X E R)) {v w : View X E R} → HaveGrown vs ws → HasGrown v w
      → HaveGrown (vs ++ v ∷ []) (ws ++ w ∷ [])
  grown_beside [] [] all one = (one, tt)
  grown_beside [] (w ∷ ws) all one = absurd all
  grown_beside (v ∷ vs) [] all one = absurd all
  grown_beside (v ∷ vs) (w ∷ ws) all one = (all.0, grown_beside vs ws all.1 one)

  -- workers attended at seats of their own, and an errand had rounds at one of its own; all were joined; the rest was attended to,
  -- and there was one round more
  pub served_of : {does : DeskSeat X E R → B → DeskSeat X E R → B → Type 0} (before after : List (Job X B A E R)) (beside aside : Job X B A E R)
      {seat joined between back : DeskSeat X E R} {bench last first left : B}
      → HaveWorked attends before after → All HasNone (known_to_all before)
      → HasMadeRounds does beside aside → HasNone (known_to beside.seat) → bench ≡ aside.bench
      → HasSeenAll (known_to joined) (known_to_all after ++ known_to aside.seat ∷ [])
      → (known_to joined).own ≡ (known_to seat).own ++ all_own (known_to_all after ++ known_to aside.seat ∷ [])
      → WorksFrom attends joined bench between last
      → does between first back left → HasGrown (known_to between) (known_to back)
      → GainsByServing attends does (map bench_of before ++ beside.bench ∷ []) first left seat back
  served_of before after beside aside {seat} {joined} {between} {back} {bench} {last} {first} {left} worked none rounds fresh same seen own rest at grew =
      let s = shifts_of before after worked none in record {
        shifts = s.shifts;
        worked = s.worked;
        fresh = s.fresh;
        rounds = record {
          seat = beside.seat;
          bench = beside.bench;
          count = rounds.count;
          later = aside.seat;
          left = aside.bench;
        };
        made = rounds.made;
        fresh_beside = fresh;
        each_bench = ap (λ l. l ++ beside.bench ∷ []) s.benches;
        last = record { seat = joined; bench = bench; visits = rest.visits; later = between; left = last };
        worked_last = rest.attended;
        last_bench = same;
        gained = own ∙ ap (λ l. (known_to seat).own ++ all_own (l ++ known_to aside.seat ∷ [])) (sym s.later);
        seen = subst (λ l. HasSeenAll (known_to back) (l ++ known_to aside.seat ∷ [])) (sym s.later)
            (seen_on (known_to between) (known_to back) (known_to_all after ++ known_to aside.seat ∷ []) (grown_seen grew)
            (seen_on (known_to joined) (known_to between) (known_to_all after ++ known_to aside.seat ∷ []) (grown_seen rest.attended.grew) seen));
        at_the_end = at;
      }
