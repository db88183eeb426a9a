-- The members of what stands in for hidden rules.
use Rattle.std.specs.Prelude.{ℕ, pos, List, [], ◌∷◌}
use Rattle.m2m_names.specs.Members.{acr_name, acor_name, acop_name}
use Rattle.m2m_value.specs.Data.{Entry, number, text, list, elements_of}
use Rattle.policy_eval.specs.Originators.{everyone}
use Rattle.policy_eval.specs.Rules.{written_rule}

-- The members of the rule that gives everyone these bits, as it is written.
abbrev pub plain_rule_members : ℕ → List Entry
plain_rule_members bits =
    (acop_name, number (pos bits)) ∷ (acor_name, list (elements_of (text everyone ∷ []))) ∷ []

-- The members of the value of `pv` or `pvs` that has this rule alone.
abbrev pub plain_rules_members : ℕ → List Entry
plain_rules_members bits =
    (acr_name, list (elements_of (written_rule everyone bits ∷ []))) ∷ []
