-- What a clock tells after one more reading.
use Rattle.std.proofs.Common.{◌≡◌, ℕ, suc, ◌-◌, ◌<◌, ◌^◌, List, ◌∷◌, [], ◌++◌, true, arith, refl, inl, inr}
use Rattle.std.proofs.lemmas.Bool.{cases_Bool, ltb-true, lt-ltb}
use Rattle.m2m_io.specs.Counts.{one_more, is_exact}
use Rattle.m2m_io.specs.Clock.{reading_after, told_readings}
use Rattle.m2m_io.specs.Told.{Tells}

-- one more reading is told behind the others, as long as the calls can be counted
pub told_readings-next : (set : List ℕ) (made : ℕ)
    → Tells (λ given. given ++ reading_after set made ∷ [])
    (told_readings (record { set = set; made = made }))
    (told_readings (record { set = set; made = one_more made }))
told_readings-next set made =
    elim (cases_Bool (is_exact (one_more made))) [
      | inr ended ↦ rw ended tt
      | inl counted ↦
          let below : one_more made < 2 ^ 64 - 1 = ltb-true _ _ counted in
          let here : is_exact made ≡ true = lt-ltb _ _ (omega arith) in
          let next : one_more made ≡ suc made = omega arith in
          rw (counted, here, next) refl
    ]
