-- Bits by rules, in tables by the numbers of resources.
use Rattle.std.specs.Prelude.{◌≡◌, ◌⊎◌, ℕ, List, [], ◌∷◌, ◌++◌, Contains, Some, option_map}
use Rattle.std.specs.Option.{option_map_or}
use Rattle.m2m_names.specs.declared.attributes.Attr.TheVariants.{Pv}
use Rattle.m2m_value.specs.Data.{Data}
use Rattle.resource_model.specs.Attributes.{value_of}
use Rattle.resource_model.specs.Home.{HomeData}
use Rattle.resource_model.specs.Resource.{ResourceData}
use Rattle.tree_model.specs.Tree.{at}
use Rattle.policy_eval.specs.Rights.{bits_by}
use Rattle.policy_eval.specs.Rules.{Rule, policy_at, policy_of, rules_in}

-- the rules by which a policy gives rights on what names it
abbrev pub lent_rules : ResourceData → List Rule
lent_rules policy = rules_in (value_of Pv policy.attrs)

-- what a table has at the number of a resource are the bits that these rules of it give
abbrev pub AreBits : (ResourceData → List Rule) → HomeData → List ResourceData →
    List ℕ → List (ℕ × ℕ) → Type 0
AreBits rules home nodes originator table =
    (r : ResourceData) (bits : ℕ) → at r.number nodes ≡ Some r
    → Contains table (r.number, bits) → bits ≡ bits_by home originator (rules r)

-- what a table has at a number are the bits that the policy of that number gives, which is there
abbrev pub AreLent : HomeData → List ResourceData → List ℕ → List (ℕ × ℕ) → Type 0
AreLent home nodes originator table =
    (n bits : ℕ) → Contains table (n, bits)
    → option_map (λ p. bits_by home originator (lent_rules p)) (policy_at nodes n) ≡ Some bits

-- the rules by which the policy that an id names gives rights, where there is one
abbrev pub rules_by_id : List ResourceData → Data → List Rule
rules_by_id nodes id = option_map_or lent_rules (policy_of nodes id) []

-- a table has these bits at the number besides, or has no room for them and is as it was
abbrev pub NotesOrStays : List (ℕ × ℕ) → List (ℕ × ℕ) → ℕ → ℕ → Type 0
NotesOrStays old new number bits = (new ≡ old ++ (number, bits) ∷ []) ⊎ (new ≡ old)
