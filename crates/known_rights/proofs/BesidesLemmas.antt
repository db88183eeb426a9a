-- What rules give besides bits that are had.
use Rattle.std.proofs.Common.{◌≡◌, ℕ, List, [], ◌∷◌, inl, inr, sym, ap, ◌∙◌, arith}
use Rattle.std.proofs.lemmas.Bool.{cases_Bool}
use Rattle.std.proofs.lemmas.Nat.Bits.{bit_at_or, same_from_bits}
use Rattle.std.specs.Int.Bits.{or_zero_l, or_zero_r}
use Rattle.std.specs.Int.RustNames.{bit_or}
use Rattle.resource_model.specs.Home.{HomeData}
use Rattle.policy_eval.specs.Rules.{Rule}
use Rattle.policy_eval.specs.Rights.{bits_by, is_subject, with_rule, with_rules}

or_assoc : (a b c : ℕ) → bit_or (bit_or a b) c ≡ bit_or a (bit_or b c)
or_assoc a b c = same_from_bits _ _ (λ i. omega (arith, bit_at_or (bit_or a b) c i, bit_at_or a b i, bit_at_or a (bit_or b c) i, bit_at_or b c i))

rule_besides : (home : HomeData) (o : List ℕ) (bits : ℕ) (rule : Rule) → with_rule home o bits rule ≡ bit_or bits (with_rule home o 0 rule)
rule_besides home o bits rule = elim (cases_Bool (is_subject home o rule.subjects)) [
  | inl t ↦ rw t (ap (bit_or bits) (sym (or_zero_l rule.bits)))
  | inr f ↦ rw f (sym (or_zero_r bits))
]

-- rules give their bits besides those that are had
pub rules_besides : (home : HomeData) (o : List ℕ) (bits : ℕ) (rules : List Rule) → with_rules home o bits rules ≡ bit_or bits (bits_by home o rules)
rules_besides home o bits [] = sym (or_zero_r bits)
rules_besides home o bits (rule ∷ rules) =
    rules_besides home o (with_rule home o bits rule) rules
    ∙ ap (λ b. bit_or b (bits_by home o rules)) (rule_besides home o bits rule)
    ∙ or_assoc bits (with_rule home o 0 rule) (bits_by home o rules)
    ∙ ap (bit_or bits) (sym (rules_besides home o (with_rule home o 0 rule) rules))
