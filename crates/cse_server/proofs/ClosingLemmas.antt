-- The first bytes of a text, and those behind them.
use Rattle.std.proofs.Common.{◌≡◌, ℕ, min, List, length, take, drop, inl, inr, refl, sym, ◌∙◌, arith}
use Rattle.std.proofs.lemmas.Bool.{cases_lt}
use Rattle.std.proofs.lemmas.List.{take_all}
use Rattle.std.proofs.Math.ListN.{drop_of_length-le}

-- at most so many elements, where there may be fewer
pub take-most : (text : List ℕ) (n : ℕ) → take (min (length text) n) text ≡ take n text
take-most text n = elim (cases_lt (length text) n) [
  | inl lt ↦ let e : min (length text) n ≡ length text = omega (arith, lt) in rw e (take_all (length text) text (omega arith) ∙ sym (take_all n text (omega (arith, lt))))
  | inr ge ↦ let e : min (length text) n ≡ n = omega (arith, ge) in rw e refl
]

pub drop-most : (text : List ℕ) (n : ℕ) → drop (min (length text) n) text ≡ drop n text
drop-most text n = elim (cases_lt (length text) n) [
  | inl lt ↦ let e : min (length text) n ≡ length text = omega (arith, lt) in rw e (drop_of_length-le text (omega arith) ∙ sym (drop_of_length-le text (omega (arith, lt))))
  | inr ge ↦ let e : min (length text) n ≡ n = omega (arith, ge) in rw e refl
]
