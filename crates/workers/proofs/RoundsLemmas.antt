-- Rounds that are put together.
use Rattle.std.proofs.Common.{◌≡◌, ℕ, zero, suc, ◌+◌, refl, subst, arith}
use Rattle.turn_desk.specs.declared.shared.DeskSeat.{DeskSeat}
use Rattle.turn_desk.specs.Seats.{known_to}
use Rattle.workers.specs.Rounds.{DoesInTurn, RunsFrom}
use Rattle.workers.specs.Shares.{HasGrown}
use Rattle.workers.proofs.SharesLemmas.{grown_self, grown_on}

module _ {S B : Type 0} (does : S → B → S → B → Type 0) where
  -- more rounds
  turns_on : (count more : ℕ) (seat : S) (bench : B) (between : S) (aside : B) (later : S) (left : B)
      → DoesInTurn does count seat bench between aside → DoesInTurn does more between aside later left
      → DoesInTurn does (count + more) seat bench later left
  turns_on zero more seat bench between aside later left h on =
      let e : more ≡ 0 + more = omega arith in
      subst (λ n. DoesInTurn does n seat bench later left) e
      (subst (λ b. DoesInTurn does more seat b later left) h.1
      (subst (λ s. DoesInTurn does more s aside later left) h.0 on))
  turns_on (suc count) more seat bench between aside later left h on =
      let e : suc (count + more) ≡ suc count + more = omega arith in
      subst (λ n. DoesInTurn does n seat bench later left) e
      (h.0, h.1, h.2, turns_on count more h.0 h.1 between aside later left h.3 on)

module _ {X E R B : Type 0} {does : DeskSeat X E R → B → DeskSeat X E R → B → Type 0} where
  -- no round yet
  pub runs_none : (seat : DeskSeat X E R) (bench : B) → RunsFrom does seat bench seat bench
  runs_none seat bench = record {
    count = 0;
    made = record { in_turn = (refl, refl); grew = grown_self (known_to seat) };
  }

  -- one round
  pub runs_once : {seat later : DeskSeat X E R} {bench left : B} → does seat bench later left
      → HasGrown (known_to seat) (known_to later) → RunsFrom does seat bench later left
  runs_once {seat} {later} {bench} {left} at grew = record {
    count = 1;
    made = record { in_turn = (later, left, at, (refl, refl)); grew = grew };
  }

  -- rounds, and then more
  pub runs_on : {seat between later : DeskSeat X E R} {bench aside left : B} → RunsFrom does seat bench between aside
      → RunsFrom does between aside later left → RunsFrom does seat bench later left
  runs_on {seat} {between} {later} {bench} {aside} {left} r on = record {
    count = r.count + on.count;
    made = record {
      in_turn = turns_on does r.count on.count seat bench between aside later left r.made.in_turn on.made.in_turn;
      grew = grown_on r.made.grew on.made.grew;
    };
  }
