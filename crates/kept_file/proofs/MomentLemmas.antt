-- How a run of calls on a file goes on, and what a crash at any moment of it leaves.
use Rattle.std.proofs.Common.{inl, inr, ⊎_elim, ℕ, List, subst, sym, arith}
use Rattle.kept_file.specs.Crashes.{ComesBy, GoesOn, LeavesNoMore, LeavesOnly, LeavesThis}

module _ {F : Type 0} (moment : F → ℕ) (left_since : F → ℕ → List ℕ → Type 0) where
  -- before the first call
  pub starts : (x : F) (P : List ℕ → Type 0)
      → ((c : List ℕ) → left_since x (moment x) c → P c) → LeavesOnly moment left_since x x P
  starts x P here = record { later = omega arith; each = here; before = λ t c le left. inl left }

  -- one call more, after which a crash may leave what this holds of
  pub calls_on : (old mid new : F) (P may_leave : List ℕ → Type 0)
      → LeavesOnly moment left_since old mid P
      → GoesOn (moment mid) (moment new) (left_since mid) (left_since new) may_leave
      → ((c : List ℕ) → may_leave c → P c) → LeavesOnly moment left_since old new P
  calls_on old mid new P may_leave so_far time here = record {
    later = omega (arith, so_far.later, time.later);
    each = λ c left. ⊎_elim (so_far.each c) (here c) (time.nothing_else (moment old) c so_far.later left);
    before = λ t c le left. ⊎_elim (so_far.before t c le) (λ now. inr (here c now))
        (time.nothing_else t c (omega (arith, le, so_far.later)) left);
  }

  -- a run and then a run
  pub runs_on : (old mid new : F) (P : List ℕ → Type 0)
      → LeavesOnly moment left_since old mid P → LeavesOnly moment left_since mid new P
      → LeavesOnly moment left_since old new P
  runs_on old mid new P first second = record {
    later = omega (arith, first.later, second.later);
    each = λ c left. ⊎_elim (first.each c) (λ p. p) (second.before (moment old) c first.later left);
    before = λ t c le left. ⊎_elim (first.before t c le) (λ p. inr p)
        (second.before t c (omega (arith, le, first.later)) left);
  }

  -- of what a crash leaves, what follows from it holds too
  pub leaves_wider : (old new : F) (P Q : List ℕ → Type 0) → ((c : List ℕ) → P c → Q c)
      → LeavesOnly moment left_since old new P → LeavesOnly moment left_since old new Q
  leaves_wider old new P Q wider run = record {
    later = run.later;
    each = λ c left. wider c (run.each c left);
    before = λ t c le left. ⊎_elim (λ past. inl past) (λ p. inr (wider c p)) (run.before t c le left);
  }

-- ---- a run of calls, and what holds of all that a crash may leave

module _ {F : Type 0} (seen : F → List ℕ) (may_leave : F → List ℕ → Type 0) (moment : F → ℕ) (left_since : F → ℕ → List ℕ → Type 0)
    (only_now : (x : F) (c : List ℕ) → left_since x (moment x) c → may_leave x c) where
  abbrev Passes : F → F → Type 0
  Passes old new = GoesOn (moment old) (moment new) (left_since old) (left_since new) (may_leave new)

  -- this holds of what a crash leaves at any moment up to now, and of what it may leave now
  pub record Run (P : List ℕ → Type 0) (old now : F) : Type 0 where
    pub leaves : LeavesOnly moment left_since old now P
    pub holds : (c : List ℕ) → may_leave now c → P c

  pub begins : (P : List ℕ → Type 0) (x : F) → LeavesThis (seen x) (may_leave x) → P (seen x) → Run P x x
  begins P x only here =
      let now : (c : List ℕ) → may_leave x c → P c = λ c left. subst P (sym (only c left)) here in
      record { leaves = starts moment left_since x P (λ c left. now c (only_now x c left)); holds = now }

  -- a call that does such a step, which keeps it
  pub steps_on : (P : List ℕ → Type 0) (step : List ℕ → List ℕ → Type 0) (old mid new : F) → Run P old mid
      → ((d c : List ℕ) → P d → step d c → P c) → ComesBy step (may_leave mid) (may_leave new) → Passes mid new → Run P old new
  steps_on P step old mid new run keeps comes time =
      let now : (c : List ℕ) → may_leave new c → P c = λ c left. let from = comes c left in keeps from.0 c (run.holds from.0 from.1) from.2 in
      record { leaves = calls_on moment left_since old mid new P (may_leave new) run.leaves time now; holds = now }

  -- one that leaves no more
  pub syncs_on : (P : List ℕ → Type 0) (old mid new : F) → Run P old mid → LeavesNoMore (may_leave mid) (may_leave new)
      → Passes mid new → Run P old new
  syncs_on P old mid new run less time =
      let now : (c : List ℕ) → may_leave new c → P c = λ c left. run.holds c (less c left) in
      record { leaves = calls_on moment left_since old mid new P (may_leave new) run.leaves time now; holds = now }

  -- the first call, where a crash leaves one content
  pub steps_first : (step : List ℕ → List ℕ → Type 0) (old new : F) → LeavesThis (seen old) (may_leave old)
      → step (seen old) (seen old) → ComesBy step (may_leave old) (may_leave new) → Passes old new → Run (step (seen old)) old new
  steps_first step old new only stays comes time =
      let P = step (seen old) in
      let start = begins P old only stays in
      let now : (c : List ℕ) → may_leave new c → P c = λ c left. let from = comes c left in subst (λ d. step d c) (only from.0 from.1) from.2 in
      record { leaves = calls_on moment left_since old old new P (may_leave new) start.leaves time now; holds = now }
