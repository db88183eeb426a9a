-- A connection has at most 10,000 frames.
use Rattle.std.proofs.Common.{◌≡◌, ℕ, ◌+◌, ◌≤◌, Bool, true, false, List, [], ◌∷◌, length, ◌⊎◌, inl, inr, refl, arith}
use Rattle.std.specs.Prelude.{nat_le, ◌||◌}
use Rattle.std.proofs.lemmas.Bool.{true≢false}
use Rattle.http_frames.specs.declared.frame.Frame.{Frame}
use Rattle.cse_server.specs.Closing.{closes, most_frames}
use Rattle.cse_server.specs.Talk.{some_closes}

right_open : (a b : Bool) → (a || b) ≡ false → b ≡ false
right_open true b e = absurd (true≢false e)
right_open false b e = e

left_open : (a b : Bool) → (a || b) ≡ false → a ≡ false
left_open true b e = absurd (true≢false e)
left_open false b e = refl

early : (place : ℕ) (frame : Frame) → closes place frame ≡ false → nat_le most_frames place ≡ false
early place frame e = right_open _ (nat_le most_frames place) e

-- where none of some frames closes, the last of them stands before the last place
pub places_end : (xs : List Frame) (place : ℕ) → some_closes xs place ≡ false → (length xs ≡ 0) ⊎ (place + length xs ≤ most_frames)
places_end [] place stays = inl refl
places_end (x ∷ xs) place stays =
    let here : nat_le most_frames place ≡ false = early place x (left_open _ (some_closes xs (place + 1)) stays) in
    elim (places_end xs (place + 1) (right_open (closes place x) (some_closes xs (place + 1)) stays)) [
      | inl none ↦ inr (grind (arith, here, none))
      | inr more ↦ inr (omega (arith, more))
    ]
