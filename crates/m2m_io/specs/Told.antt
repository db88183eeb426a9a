-- What an object outside may tell of itself, before a call and after it.
use Rattle.std.specs.Prelude.{◌≡◌, ◌≤◌, ◌⊎◌, ℕ, List, length, take, ⊤, Option, None, Some}
use Rattle.std.specs.Io.KnownBytes.{Appends}
use Rattle.m2m_io.specs.Counts.{Rose}

-- What is told after a call is this function of what was told before. An object may stop telling,
-- and one that told nothing tells nothing from then on.
abbrev pub Tells : {T : Type 0} → (T → T) → Option T → Option T → Type 0
Tells change old None = ⊤
Tells change None (Some new) = ⊥
Tells change (Some old) (Some new) = new ≡ change old

-- what is told stays as it was
abbrev pub TellsStill : {T : Type 0} → Option T → Option T → Type 0
TellsStill old new = Tells (λ t. t) old new

-- known bytes grow by a prefix of these bytes
abbrev pub AppendsPrefix : Option (List ℕ) → Option (List ℕ) → List ℕ → Type 0
AppendsPrefix old new bytes = (k : ℕ) × (k ≤ length bytes) × Appends old new (take k bytes)

-- known bytes grow by all of these and no fault is counted, or by a prefix of them where one is
abbrev pub AppendsUnlessFault : Option (List ℕ) → Option (List ℕ) → ℕ → ℕ → List ℕ → Type 0
AppendsUnlessFault old new before now bytes =
    (Appends old new bytes × (now ≡ before)) ⊎ (AppendsPrefix old new bytes × Rose before now)
