-- A file in memory, and the contents that a crash might have left of it.
use Rattle.std.specs.Prelude.{◌≡◌, ◌≤◌, ℕ, List, [], ◌++◌, drop, map, All, Vec}
use Rattle.std.specs.List.{Contains}
use Rattle.std.proofs.Common.{zero, suc, ◌∷◌, subst, arith, take, take-append-drop}
use Rattle.std.proofs.lemmas.List.Elements.{Contains-append_right}
use Rattle.std.specs.declared.alloc.Global.{Global}
use Rattle.m2m_io.specs.Counts.{Calls}

-- the bytes that a read gives; each content that a crash might have left so far, in order; how many
-- of these a crash can't leave any more; and the calls so far
pub record FileData : Type 0 where
  pub seen : List ℕ
  pub images : List (List ℕ)
  pub synced : ℕ
  pub calls : Calls

-- the bytes of each
abbrev pub contents : List (Vec ℕ Global) → List (List ℕ)
contents vs = map (λ v. v.items) vs

-- what a crash might have left from so many contents on
abbrev pub LeftSince : FileData → ℕ → List ℕ → Type 0
LeftSince file t c = Contains (drop t file.images) c

-- what a crash may leave now
abbrev pub MayLeave : FileData → List ℕ → Type 0
MayLeave file c = LeftSince file file.synced c

-- Contents came to those that a crash may leave, each by such a step from the bytes that a read
-- gave before; none went.
pub record Adds (step : List ℕ → List ℕ → Type 0) (old new : FileData) : Type 0 where
  pub more : List (List ℕ)
  pub added : new.images ≡ old.images ++ more
  pub each : All (step old.seen) more
  pub synced : new.synced ≡ old.synced

-- the file is as it was, but for the count of its calls
pub record StaysButCalls (old new : FileData) : Type 0 where
  pub seen : new.seen ≡ old.seen
  pub images : new.images ≡ old.images
  pub synced : new.synced ≡ old.synced

contained_before : {X : Type 0} → (xs : List X) (n : ℕ) (x : X) → Contains (drop n xs) x
    → Contains xs x
contained_before xs n x there =
    subst (λ ys. Contains ys x) (take-append-drop n xs)
    (Contains-append_right (take n xs) (drop n xs) x there)

-- what may be left now might have been left since any earlier moment
pub left_now : {X : Type 0} → (xs : List X) (synced t : ℕ) (x : X) → t ≤ synced
    → Contains (drop synced xs) x → Contains (drop t xs) x
left_now xs synced zero x le now = contained_before xs synced x now
left_now xs zero (suc t) x le now = absurd (omega (arith, le))
left_now [] (suc synced) (suc t) x le now = now
left_now (y ∷ xs) (suc synced) (suc t) x le now = left_now xs synced t x (omega (arith, le)) now
