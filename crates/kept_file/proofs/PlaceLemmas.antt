-- What a crash leaves while a file is put in the place of another.
use Rattle.std.proofs.Common.{◌≡◌, ℕ, List, inl, inr, ⊎_elim, refl, sym, ap, ◌∙◌, subst}
use Rattle.kept_file.specs.Crashes.{ComesBy, GoesOn, LeavesNoMore, LeavesOnly, LeavesThis, Replaces}
use Rattle.kept_file.proofs.MomentLemmas.{Run, begins, steps_on, syncs_on}

module _ {N : Type 0} (seen : N → List ℕ) (may_leave : N → List ℕ → Type 0) (moment : N → ℕ) (left_since : N → ℕ → List ℕ → Type 0)
    (only_now : (x : N) (c : List ℕ) → left_since x (moment x) c → may_leave x c) (bytes : List ℕ) (old : N) where
  -- the old content of the name, or the new one
  abbrev pub Kept : List ℕ → Type 0
  Kept = Replaces bytes (seen old)

  abbrev pub Goes : N → Type 0
  Goes = Run seen may_leave moment left_since only_now Kept old

  pub at_first : LeavesThis (seen old) (may_leave old) → Goes old
  at_first only = begins seen may_leave moment left_since only_now Kept old only (inl refl)

  -- a call that leaves no more
  pub stays_on : (mid new : N) → Goes mid → LeavesNoMore (may_leave mid) (may_leave new) → GoesOn (moment mid) (moment new) (left_since mid) (left_since new) (may_leave new) → Goes new
  stays_on mid new run less time = syncs_on seen may_leave moment left_since only_now Kept old mid new run less time

  -- the name is given
  pub given_on : (mid new : N) (given : List ℕ) → given ≡ bytes → Goes mid → ComesBy (Replaces given) (may_leave mid) (may_leave new) → GoesOn (moment mid) (moment new) (left_since mid) (left_since new) (may_leave new) → Goes new
  given_on mid new given is run comes time = steps_on seen may_leave moment left_since only_now Kept (Replaces given) old mid new run keeps comes time
    where
      keeps : (d c : List ℕ) → Kept d → Replaces given d c → Kept c
      keeps d c was step = ⊎_elim (λ same. subst Kept (sym same) was) (λ new. inr (new ∙ is)) step
