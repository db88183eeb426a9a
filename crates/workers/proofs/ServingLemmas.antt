-- What comes of serving a door: seats that were shared and joined again, or want of memory.
use Rattle.std.proofs.Common.{◌≡◌, ℕ, Option, Some, [], ◌∷◌, ◌++◌, List, map, refl, sym, ap, subst, ◌∙◌}
use Rattle.std.specs.declared.result.Result.{Result}
use Rattle.std.specs.declared.result.Result.TheVariants.{Ok, Err}
use Rattle.std.specs.Prelude.{IfOk, IfErr}
use Rattle.atomic_table.specs.Seated.{TableId}
use Rattle.turn_desk.specs.declared.shared.DeskSeat.{DeskSeat}
use Rattle.turn_desk.specs.declared.view.View.{View}
use Rattle.turn_desk.specs.Seats.{known_to}
use Rattle.workers.specs.declared.gate.Ending.TheVariants.{Fault}
use Rattle.workers.specs.declared.serving.ServeFault.{ServeFault}
use Rattle.workers.specs.declared.serving.ServeFault.TheVariants.{DoorFault, OutOfMemory}
use Rattle.workers.specs.Gate.{DoorTold, TakesConnections, ServesDoor}
use Rattle.workers.specs.Serving.{EndsServing, GainsByServing, seat_after}
use Rattle.workers.specs.Shares.{HasGoneOn, AddUpTo, IsJoinedOf, all_own}
use Rattle.workers.proofs.SharesLemmas.{come_back}

module _ {X E R C B A : Type 0} {attends : DeskSeat X E R → C → B → DeskSeat X E R → A → B → Type 0}
    {does : DeskSeat X E R → B → DeskSeat X E R → B → Type 0} where
  -- a seat that had the same own entries was served likewise
  served_from : {benches all : List B} {first left : B} {kept seat back : DeskSeat X E R} → (known_to kept).own ≡ (known_to seat).own
      → benches ≡ all → GainsByServing attends does benches first left kept back → GainsByServing attends does all first left seat back
  served_from own same s = record {
    shifts = s.shifts;
    worked = s.worked;
    fresh = s.fresh;
    rounds = s.rounds;
    made = s.made;
    fresh_beside = s.fresh_beside;
    each_bench = s.each_bench ∙ same;
    last = s.last;
    worked_last = s.worked_last;
    last_bench = s.last_bench;
    gained = s.gained ∙ ap (λ l. l ++ all_own (map (λ w. known_to w.later) s.shifts ++ known_to s.rounds.later ∷ [])) own;
    seen = s.seen;
    at_the_end = s.at_the_end;
  }

module _ {X E R D C B A : Type 0} (step : ℕ → E → X → R → X → Type 0) (desk : TableId) (told : D → DoorTold)
    (attends : DeskSeat X E R → C → B → DeskSeat X E R → A → B → Type 0)
    (does : DeskSeat X E R → B → DeskSeat X E R → B → Type 0) where
  -- seats were split off, and what came of them was joined
  pub ends_shared : {accept limit : Option ℕ} {start : DoorTold} {seat kept : DeskSeat X E R} {door : D}
      {others : List (View X E R)} {benches all : List B} {first left : B}
      (r : Result (DeskSeat X E R × D) (DeskSeat X E R × D × ServeFault))
      → accept ≡ limit → told door ≡ start
      → HasGoneOn (known_to seat) (known_to kept) → AddUpTo (known_to seat) (known_to kept ∷ others)
      → (known_to kept).own ≡ (known_to seat).own → benches ≡ all
      → IsJoinedOf step desk (known_to kept) others (seat_after r)
      → GainsByServing attends does benches first left kept (seat_after r)
      → IfOk r (λ p. ServesDoor limit start (told p.1))
      → IfErr r (λ e. TakesConnections limit (Some Fault) start (told e.1))
      → IfErr r (λ e. e.2 ≡ DoorFault)
      → EndsServing step desk told attends does accept all first left seat door r
  ends_shared {accept = accept} {limit = limit} {start = start} {door = door} (Ok p) most from on parts own same comes served ok fault cause = record {
    back = come_back on parts comes;
    gains = served_from own same served;
    ok = subst (λ a. ServesDoor a (told door) (told p.1)) (sym most)
        (subst (λ s. ServesDoor limit s (told p.1)) (sym from) ok);
    back_at_fault = tt;
    gains_at_fault = tt;
    fault = tt;
    memory = tt;
  }
  ends_shared {accept = accept} {limit = limit} {start = start} {door = door} (Err e) most from on parts own same comes served ok fault cause = record {
    back = tt;
    gains = tt;
    ok = tt;
    back_at_fault = λ _. come_back on parts comes;
    gains_at_fault = λ _. served_from own same served;
    fault = λ _. subst (λ a. TakesConnections a (Some Fault) (told door) (told e.1)) (sym most)
        (subst (λ s. TakesConnections limit (Some Fault) s (told e.1)) (sym from) fault);
    memory = λ starved. let both : DoorFault ≡ OutOfMemory = sym cause ∙ starved in absurd (cc);
  }

-- nothing was done
pub ends_starved : {X E R D C B A : Type 0} {step : ℕ → E → X → R → X → Type 0} {desk : TableId} {told : D → DoorTold}
    {attends : DeskSeat X E R → C → B → DeskSeat X E R → A → B → Type 0}
    {does : DeskSeat X E R → B → DeskSeat X E R → B → Type 0}
    {accept : Option ℕ} {benches : List B} {first : B} {seat back : DeskSeat X E R} {door : D} → back ≡ seat
    → EndsServing step desk told attends does accept benches first first seat door (Err (back, door, OutOfMemory))
ends_starved same = record {
  back = tt;
  gains = tt;
  ok = tt;
  back_at_fault = λ fault. absurd (cc);
  gains_at_fault = λ fault. absurd (cc);
  fault = λ fault. absurd (cc);
  memory = λ _. (same, refl, refl);
}
