-- What is known of the bits of an originator.
use Rattle.std.specs.Prelude.{◌≡◌, ℕ, List, Option, Some, None, ⊤}
use Rattle.m2m_names.specs.declared.attributes.Attr.TheVariants.{Acpi, Pv}
use Rattle.resource_model.specs.Home.{HomeData}
use Rattle.resource_model.specs.Resource.{ResourceData}
use Rattle.tree_model.specs.Tree.{at}
use Rattle.policy_eval.specs.Rights.{bits_by}
use Rattle.policy_eval.specs.Rules.{ids_at, linked_rules, rules_by}
use Rattle.known_rights.specs.Tables.{AreBits, AreLent}
use Rattle.known_rights.specs.declared.known.Known.{Known}
use Rattle.known_rights.specs.declared.known.ReadList.{ReadList}

-- a list that was read has the bits that the policies give which the `acpi` of its resource names
abbrev pub IsRead : HomeData → List ResourceData → List ℕ → Option ReadList → Type 0
IsRead home nodes originator None = ⊤
IsRead home nodes originator (Some read) =
    (r : ResourceData) → at read.number nodes ≡ Some r
    → read.bits ≡ bits_by home originator (rules_by Pv nodes (ids_at Acpi r))

-- what is known are the bits that policies give, those by the policies that containers name, and
-- those by the list that was read last
pub record IsKnown (home : HomeData) (nodes : List ResourceData) (originator : List ℕ)
    (known : Known) : Type 0 where
  pub policies : AreLent home nodes originator known.policies
  pub linked : AreBits (linked_rules Pv nodes) home nodes originator known.linked
  pub last : IsRead home nodes originator known.last
