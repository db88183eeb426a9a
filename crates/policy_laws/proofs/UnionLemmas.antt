-- The bits that rules give, place by place.
use Rattle.policy_laws.proofs.Words.{◌≡◌, ℕ, ◌≤◌, min, List, [], ◌∷◌, ◌++◌, true, refl, sym, ap, ◌∙◌, arith, bit_at, bit_and, bit_or}
use Rattle.policy_laws.proofs.Terms.{HomeData, Rule, is_subject, with_rule, with_rules, has_bits}
use Rattle.policy_laws.proofs.Facts.{cond_both, eqb-true, eq-eqb, bit_at_and, bit_at_or, bit_at-zero, same_from_bits}
use Rattle.policy_laws.proofs.ChoiceLemmas.{both_chosen}

-- every bit of the one is a bit of the other
pub record IsBelow (a b : ℕ) : Type 0 where
  pub places : (i : ℕ) → bit_at a i ≤ bit_at b i

pub below_itself : (a : ℕ) → IsBelow a a
below_itself a = record { places = λ i. omega arith }

pub below_through : (a b c : ℕ) → IsBelow a b → IsBelow b c → IsBelow a c
below_through a b c ab bc = record { places = λ i. omega (arith, ab.places i, bc.places i) }

pub zero_below : (a : ℕ) → IsBelow 0 a
zero_below a = record { places = λ i. omega (arith, bit_at-zero i) }

or_below : (a b more : ℕ) → IsBelow a b → IsBelow (bit_or a more) (bit_or b more)
or_below a b more ab = record { places = λ i. omega (arith, bit_at_or a more i, bit_at_or b more i, ab.places i) }

below_or : (a more : ℕ) → IsBelow a (bit_or a more)
below_or a more = record { places = λ i. omega (arith, bit_at_or a more i) }

-- a rule adds to what was there, and more to more
with_rule_adds : (home : HomeData) (o : List ℕ) (a : ℕ) (rule : Rule) → IsBelow a (with_rule home o a rule)
with_rule_adds home o a rule =
    cond_both (is_subject home o rule.subjects) _ _ (IsBelow a) (λ t. below_or a rule.bits) (λ f. below_itself a)

with_rule_more : (home : HomeData) (o : List ℕ) (a b : ℕ) (rule : Rule) → IsBelow a b → IsBelow (with_rule home o a rule) (with_rule home o b rule)
with_rule_more home o a b rule ab =
    both_chosen IsBelow (is_subject home o rule.subjects) _ _ _ _ (λ t. or_below a b rule.bits ab) (λ f. ab)

pub with_rules_adds : (home : HomeData) (o : List ℕ) (a : ℕ) (rules : List Rule) → IsBelow a (with_rules home o a rules)
with_rules_adds home o a [] = below_itself a
with_rules_adds home o a (rule ∷ rules) =
    below_through _ _ _ (with_rule_adds home o a rule) (with_rules_adds home o (with_rule home o a rule) rules)

pub with_rules_more : (home : HomeData) (o : List ℕ) (a b : ℕ) (rules : List Rule) → IsBelow a b → IsBelow (with_rules home o a rules) (with_rules home o b rules)
with_rules_more home o a b [] ab = ab
with_rules_more home o a b (rule ∷ rules) ab =
    with_rules_more home o (with_rule home o a rule) (with_rule home o b rule) rules (with_rule_more home o a b rule ab)

pub with_rules-append : (home : HomeData) (o : List ℕ) (a : ℕ) (xs ys : List Rule) → with_rules home o a (xs ++ ys) ≡ with_rules home o (with_rules home o a xs) ys
with_rules-append home o a [] ys = refl
with_rules-append home o a (x ∷ xs) ys = with_rules-append home o (with_rule home o a x) xs ys

-- what has bits, has fewer bits too
pub has_more : (a b wanted : ℕ) → IsBelow a b → has_bits a wanted ≡ true → has_bits b wanted ≡ true
has_more a b wanted ab has =
    let all : bit_and a wanted ≡ wanted = eqb-true _ _ has in
    eq-eqb _ _ (same_from_bits (bit_and b wanted) wanted (λ i.
    let here : min (bit_at a i) (bit_at wanted i) ≡ bit_at wanted i = sym (bit_at_and a wanted i) ∙ ap (λ n. bit_at n i) all in
    omega (arith, ab.places i, bit_at_and b wanted i)))
