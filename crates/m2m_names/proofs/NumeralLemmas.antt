-- Numbers as digits: the number of a numeral, digit by digit, and the digits of a number in decimal.
use Rattle.std.proofs.Common.{◌≡◌, Bool, ◌%◌, ℕ, zero, suc, ◌+◌, ◌-◌, ◌*◌, ◌^◌, ◌<◌, ◌≤◌, List, [], ◌∷◌, length, take, get_or, true, refl, ap, ◌∙◌, arith, rules}
use Rattle.std.proofs.lemmas.Bool.{and_from, and_parts}
use Rattle.std.proofs.lemmas.Bool.Decides.{nat_tests}
use Rattle.std.proofs.lemmas.Fmt.{decimal_by_steps}
use Rattle.std.proofs.lemmas.Int.Digits.{digits_value_more}
use Rattle.std.proofs.lemmas.List.Folds.{list_all-append}
use Rattle.std.proofs.lemmas.Str.Parse.{IsNumeralModel, IsDigitsTest, numerals_by_value, digits_value_short, digits_value-take-le}
use Rattle.std.specs.Char.{is_ascii_digit, digit_value}
use Rattle.std.specs.Fmt.{decimal}
use Rattle.std.specs.List.{list_all}
use Rattle.std.specs.Str.Parse.{digits_value}
use Rattle.m2m_names.proofs.NameLemmas.{digit_range, decimal_parts}
use Rattle.m2m_names.specs.Name.{numeral_limit, is_numeral}

-- what holds of each digit holds of each byte of a number in decimal
pub decimal_passes : (p : ℕ → Bool) → ((d : ℕ) → d < 10 → p (48 + d) ≡ true) → (n : ℕ) → n < 2 ^ 63 → list_all p (decimal n) ≡ true
decimal_passes p each n small =
    decimal_by_steps (λ n ds. list_all p ds ≡ true)
    (λ n digit. and_from _ _ (each n digit) refl)
    (λ n ds big earlier. list_all-append p ds ((48 + n % 10) ∷ []) ∙ and_from _ _ earlier (and_from _ _ (each (n % 10) (omega arith)) refl))
    n (omega (arith, small))

tells_digits : IsDigitsTest (λ ds. list_all is_ascii_digit ds ≡ true)
tells_digits = search rules

pub own : IsNumeralModel (λ ds. list_all is_ascii_digit ds ≡ true) (digits_value 10)
own = numerals_by_value _ tells_digits

digit_at : (ds : List ℕ) (i : ℕ) → list_all is_ascii_digit ds ≡ true → i < length ds → is_ascii_digit (get_or ds i 0) ≡ true
digit_at [] i h within = absurd (omega arith)
digit_at (d ∷ ds) zero h within = (and_parts _ _ h).0
digit_at (d ∷ ds) (suc i) h within = digit_at ds i (and_parts _ _ h).1 (omega arith)

digit_is : (c : ℕ) → is_ascii_digit c ≡ true → digit_value c ≡ c - 48
digit_is c h = grind (arith, nat_tests)

pub numeral_bound : (ds : List ℕ) → is_numeral ds ≡ true → digits_value 10 ds < 10 ^ 18
numeral_bound ds h = let parts = decimal_parts numeral_limit ds h in digits_value_short own ds 18 parts.digits parts.filled.most

-- one digit more
pub record AddsDigit (ds : List ℕ) (i : ℕ) : Type 0 where
  pub low : 48 ≤ get_or ds i 0
  pub high : get_or ds i 0 ≤ 57
  pub next : digits_value 10 (take (i + 1) ds) ≡ digits_value 10 (take i ds) * 10 + (get_or ds i 0 - 48)
  pub bound : digits_value 10 (take (i + 1) ds) < 10 ^ 18

pub adds_digit : (ds : List ℕ) (i : ℕ) → is_numeral ds ≡ true → i < length ds → AddsDigit ds i
adds_digit ds i h within =
    let digit : is_ascii_digit (get_or ds i 0) ≡ true = digit_at ds i (decimal_parts numeral_limit ds h).digits within in
    let bounds = digit_range (get_or ds i 0) digit in
    let most = digits_value-take-le 10 ds (i + 1) (omega arith) in
    record {
      low = bounds.0;
      high = bounds.1;
      next = digits_value_more 10 ds i within ∙ ap (λ v. digits_value 10 (take i ds) * 10 + v) (digit_is (get_or ds i 0) digit);
      bound = omega (arith, most, numeral_bound ds h);
    }
