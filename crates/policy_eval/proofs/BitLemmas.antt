-- The bits that rules give, place by place.
use Rattle.std.proofs.Common.{◌≡◌, ℕ, ◌≤◌, nat_le, ℤ, pos, negsuc, List, [], ◌∷◌, map, Option, Some, None, inl, inr, refl, arith}
use Rattle.std.proofs.lemmas.Bool.{cases_Bool, cases_lt, leb-true}
use Rattle.std.proofs.lemmas.Nat.Bits.{bit_at_or, bit_at-lt, bit_at_above, bit_at_ones, bit_at_ones_above, same_from_bits}
use Rattle.std.specs.Int.{bit_at}
use Rattle.std.specs.Int.RustNames.{bit_or}
use Rattle.std.specs.Option.{option_map_or}
use Rattle.m2m_names.specs.Members.{acop_name}
use Rattle.m2m_names.specs.Operations.{all_bits}
use Rattle.m2m_value.specs.Data.{Data}
use Rattle.resource_model.specs.Home.{HomeData}
use Rattle.policy_eval.specs.Rules.{member_number, stated_rule, sum_of_bits}
use Rattle.policy_eval.specs.Rights.{is_subject, with_rule, with_rules}

-- who has all bits gets no more
all_or : (n : ℕ) → n ≤ all_bits → bit_or all_bits n ≡ all_bits
all_or n low = same_from_bits _ _ (λ i. elim (cases_lt i 6) [
  | inl inside ↦
      let one : bit_at all_bits i ≡ 1 = bit_at_ones 6 i inside in
      omega (arith, bit_at_or all_bits n i, one, bit_at-lt n i)
  | inr outside ↦
      let none : bit_at all_bits i ≡ 0 = bit_at_ones_above 6 i outside in
      omega (arith, bit_at_or all_bits n i, none, bit_at_above n 6 i (omega (arith, low)) outside)
])

stated_bits : (n : Option ℤ) → option_map_or sum_of_bits n 0 ≤ all_bits
stated_bits None = omega arith
stated_bits (Some (negsuc n)) = omega arith
stated_bits (Some (pos n)) = elim (cases_Bool (nat_le n all_bits)) [
  | inl t ↦ rw t (leb-true n all_bits t)
  | inr f ↦ rw f (omega arith)
]

all_stay : (home : HomeData) (o : List ℕ) (rule : Data) → with_rule home o all_bits (stated_rule rule) ≡ all_bits
all_stay home o rule = elim (cases_Bool (is_subject home o (stated_rule rule).subjects)) [
  | inl t ↦ rw t (all_or _ (stated_bits (member_number acop_name rule)))
  | inr f ↦ rw f refl
]

pub all_had : (home : HomeData) (o : List ℕ) (bits : ℕ) (rules : List Data) → bits ≡ all_bits → with_rules home o bits (map stated_rule rules) ≡ all_bits
all_had home o bits [] all = all
all_had home o bits (rule ∷ rules) all =
    let stays : with_rule home o bits (stated_rule rule) ≡ all_bits = rw all (all_stay home o rule) in
    all_had home o (with_rule home o bits (stated_rule rule)) rules stays
