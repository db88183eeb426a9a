-- What the lines of a message say of how long its body is.
use Rattle.binding_laws.proofs.Words.{◌≡◌, ℕ, ◌+◌, ◌<◌, ◌≤◌, ◌^◌, false, List, [], ◌∷◌, length, inl, inr, subst, arith, suc, decimal, digits_value, nat_lt}
use Rattle.binding_laws.proofs.Terms.{Line, is_numeral, length_field, values_named}
use Rattle.binding_laws.proofs.Facts.{cases_Bool, cond-true, cond-false, ltb-true, ne_eqb}
use Rattle.std.proofs.Common.{zero, ◌/◌, ◌%◌}
use Rattle.std.specs.Fmt.{digit_glyph, digits, digits_onto}
use Rattle.std.proofs.lemmas.Bool.{ltb-false}
use Rattle.std.proofs.lemmas.Fmt.{decimal_is_IsNumeral_wide}
use Rattle.m2m_names.proofs.NameLemmas.{decimal_parts}
use Rattle.primitive_json.specs.Kinds.{numeral_limit}
use Rattle.http_frames.specs.Body.{CarriesBody, Framing, counted, framing_of, framing_of_lengths, framing_of_values, minor_of, transfer_field}
use Rattle.http_frames.specs.declared.frame.Start.{Start}

-- lines are few, and say this length of the body, and nothing else of it
pub record SaysLength (size : List ℕ) (lines : List Line) : Type 0 where
  pub count : length lines ≤ 7
  pub coding : values_named transfer_field lines ≡ []
  pub size_is : values_named length_field lines ≡ size ∷ []

pub framing_is : (start : Start) (size : List ℕ) (lines : List Line) → SaysLength size lines → framing_of start lines ≡ framing_of_lengths (size ∷ [])
framing_is start size lines says = λ i. framing_of_values (minor_of start) (says.coding i) (says.size_is i)

-- ---- the value of Content-Length

pow_some : (k : ℕ) → 0 < 10 ^ k
pow_some zero = omega arith
pow_some (suc k) = let some : 0 < 10 ^ k = pow_some k in omega (arith, some)

-- a number past so many digits is written with at least so many
many_digits : (k n : ℕ) (acc : List ℕ) → 10 ^ k ≤ n → k + length acc ≤ length (digits_onto k 10 false n acc)
many_digits zero n acc big = omega arith
many_digits (suc k) n acc big =
    let next : List ℕ = digit_glyph false (n % 10) ∷ acc in
    let some : 0 < 10 ^ k = pow_some k in
    let rest : 10 ^ k ≤ n / 10 = omega (arith, big) in
    let more : k + suc (length acc) ≤ length (digits_onto k 10 false (n / 10) next) = many_digits k (n / 10) next rest in
    rw (ne_eqb (n / 10) 0 (λ e. omega (arith, rest, some, e))) (omega (arith, more))

-- so a numeral of 18 digits is written of no number past 64
few_digits : (n : ℕ) → 10 ^ 64 ≤ n → 64 ≤ length (decimal n)
unfolding digits
few_digits n big = let many : 64 + 0 ≤ length (digits_onto 64 10 false n []) = many_digits 64 n [] big in omega (arith, many)

-- it says no length but the one that it is written of
pub length_within : (n limit : ℕ) (carried body : List ℕ) → CarriesBody limit (framing_of_lengths (decimal n ∷ [])) carried body → n ≤ limit
length_within n limit carried body carries = elim (cases_Bool (is_numeral (decimal n))) [
  | inr other ↦ absurd (subst (λ (f : Framing). CarriesBody limit f carried body) (cond-false _ _ _ other) carries)
  | inl numeral ↦ (
      let says : CarriesBody limit (counted (digits_value 10 (decimal n))) carried body =
      subst (λ (f : Framing). CarriesBody limit f carried body) (cond-true _ _ _ numeral) carries in
      elim (cases_Bool (nat_lt n (10 ^ 64))) [
        | inl small ↦ subst (λ (m : ℕ). m ≤ limit) (decimal_is_IsNumeral_wide n (ltb-true n (10 ^ 64) small)).1 says.2
        | inr big ↦ absurd (omega (arith, few_digits n (ltb-false n (10 ^ 64) big), (decimal_parts numeral_limit (decimal n) numeral).filled.most))
      ])
]

-- and such a body stands on the stream as it is
pub body_carried : (size : List ℕ) (limit : ℕ) (carried body : List ℕ) → CarriesBody limit (framing_of_lengths (size ∷ [])) carried body → carried ≡ body
body_carried size limit carried body carries = elim (cases_Bool (is_numeral size)) [
  | inr other ↦ absurd (subst (λ (f : Framing). CarriesBody limit f carried body) (cond-false _ _ _ other) carries)
  | inl numeral ↦ (
      let says : CarriesBody limit (counted (digits_value 10 size)) carried body =
      subst (λ (f : Framing). CarriesBody limit f carried body) (cond-true _ _ _ numeral) carries in
      says.0)
]
