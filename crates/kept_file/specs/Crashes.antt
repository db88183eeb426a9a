-- What the calls on a file do to its bytes, and what a crash may leave of them between two syncs.
use Rattle.std.specs.Prelude.{◌≡◌, ◌⊎◌, ℕ, ◌+◌, ◌≤◌, min, max, List, ◌++◌, length, take, drop}

-- A write: the bytes are the old ones, with these over them from a place on.
abbrev pub Overwrites : List ℕ → ℕ → List ℕ → List ℕ → Type 0
Overwrites old at bytes new = new ≡ take at old ++ bytes ++ drop (at + length bytes) old

-- A write in one step: the bytes are the old ones, or have these over them from a place on.
abbrev pub OverwritesOrNot : ℕ → List ℕ → List ℕ → List ℕ → Type 0
OverwritesOrNot at bytes old new = (new ≡ old) ⊎ Overwrites old at bytes new

-- What a crash leaves of a write of so many bytes at a place: anything in that place and past the
-- old end, and the old bytes elsewhere.
pub record TornWrite (at n : ℕ) (old new : List ℕ) : Type 0 where
  pub before : take at new ≡ take at old
  pub after : drop (at + n) new ≡ drop (at + n) old
  pub no_shorter : length old ≤ length new
  pub no_longer : length new ≤ max (length old) (at + n)

-- What a crash leaves of a cut: the old bytes, or a front of them that is no shorter than they were
-- to be.
pub record TornCut (len : ℕ) (old new : List ℕ) : Type 0 where
  pub no_shorter : min len (length old) ≤ length new
  pub front : new ≡ take (length new) old

-- What a crash leaves of a file of these bytes that is put in the place of another one: that one,
-- or the new one.
abbrev pub Replaces : List ℕ → List ℕ → List ℕ → Type 0
Replaces bytes old new = (new ≡ old) ⊎ (new ≡ bytes)

-- Each content that a crash may leave now comes by such a step from one that it might leave before.
abbrev pub ComesBy : (List ℕ → List ℕ → Type 0) → (List ℕ → Type 0) → (List ℕ → Type 0) → Type 0
ComesBy step old new = (c : List ℕ) → new c → (d : List ℕ) × old d × step d c

-- A crash may leave now only what it might leave before.
abbrev pub LeavesNoMore : (List ℕ → Type 0) → (List ℕ → Type 0) → Type 0
LeavesNoMore old new = (c : List ℕ) → new c → old c

-- A crash leaves these bytes, and nothing else.
abbrev pub LeavesThis : List ℕ → (List ℕ → Type 0) → Type 0
LeavesThis bytes leaves = (c : List ℕ) → leaves c → c ≡ bytes

-- Time goes on from a moment to another one: what a crash might have left since an earlier moment
-- is what it might have left by then, and what it may leave now.
pub record GoesOn (before now : ℕ) (past since : ℕ → List ℕ → Type 0) (may_leave : List ℕ → Type 0)
    : Type 0 where
  pub later : before ≤ now
  pub nothing_else : (t : ℕ) (c : List ℕ) → t ≤ before → since t c → past t c ⊎ may_leave c
  pub keeps : (t : ℕ) (c : List ℕ) → t ≤ before → past t c → since t c

-- A crash at any moment from the old file on, up to the new one, leaves bytes of which this holds.
pub record LeavesOnly {F : Type 0} (moment : F → ℕ) (left_since : F → ℕ → List ℕ → Type 0)
    (old new : F) (P : List ℕ → Type 0) : Type 0 where
  pub later : moment old ≤ moment new
  pub each : (c : List ℕ) → left_since new (moment old) c → P c
  -- the same for who counts from an earlier moment
  pub before : (t : ℕ) (c : List ℕ) → t ≤ moment old → left_since new t c → left_since old t c ⊎ P c
