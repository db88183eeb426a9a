-- What an originator may do.
use Rattle.std.specs.Prelude.{ℕ, ◌==◌, Bool, List, bit_and, bit_or, false, if◌then◌else◌}
use Rattle.std.specs.List.{fold, list_any}
use Rattle.std.specs.Option.{option_map_or}
use Rattle.m2m_names.specs.Operations.{op_row}
pub use Rattle.m2m_names.specs.Operations.{discovery_bit}
use Rattle.m2m_names.specs.declared.operations.Op.TheVariants.{Create, Retrieve, Update, Delete}
use Rattle.m2m_names.specs.declared.operations.Op.TheVariants.{Notify}
use Rattle.resource_model.specs.Home.{HomeData}
use Rattle.resource_model.specs.Resource.{ResourceData}
use Rattle.tree_model.specs.Tree.{at}
use Rattle.policy_eval.specs.Originators.{is_same, does_name}
use Rattle.policy_eval.specs.Rules.{Subjects, named, only, Rule, rules_of, fan_rules, link_rules}

-- ---- the bits of `acop`

-- The bits of `acop` that operations have (TS-0001, 9.6.2.1.2).
abbrev pub create_bit : ℕ
create_bit = (op_row Create).bit

-- The bit of RETRIEVE in `acop`.
abbrev pub retrieve_bit : ℕ
retrieve_bit = (op_row Retrieve).bit

-- The bit of UPDATE in `acop`.
abbrev pub update_bit : ℕ
update_bit = (op_row Update).bit

-- The bit of DELETE in `acop`.
abbrev pub delete_bit : ℕ
delete_bit = (op_row Delete).bit

-- The bit of NOTIFY in `acop`.
abbrev pub notify_bit : ℕ
notify_bit = (op_row Notify).bit

-- ---- who has them

-- the originator is one of these
abbrev pub is_subject : HomeData → List ℕ → Subjects → Bool
is_subject home originator (named entries) = list_any (does_name home originator) entries
is_subject home originator (only text) = is_same home originator text

-- these bits and those of a rule that is for the originator
abbrev pub with_rule : HomeData → List ℕ → ℕ → Rule → ℕ
with_rule home originator bits rule =
    if is_subject home originator rule.subjects then bit_or bits rule.bits else bits

-- these bits and those of all rules that are for the originator
abbrev pub with_rules : HomeData → List ℕ → ℕ → List Rule → ℕ
with_rules home originator bits rules = fold (with_rule home originator) bits rules

-- the bits that the originator has by rules: the union over those that are for it
abbrev pub bits_by : HomeData → List ℕ → List Rule → ℕ
bits_by home originator rules = with_rules home originator 0 rules

-- all bits that are wanted are among those that are had
abbrev pub has_bits : ℕ → ℕ → Bool
has_bits had wanted = bit_and had wanted == wanted

-- whether rules give the originator these bits
abbrev pub do_give : HomeData → List ℕ → ℕ → List Rule → Bool
do_give home originator wanted rules = has_bits (bits_by home originator rules) wanted

-- whether the rules of the resource of a number do; nobody has a right on what isn't there
abbrev pub gives_at : (ResourceData → List Rule) → HomeData → List ResourceData → List ℕ → ℕ → ℕ →
    Bool
gives_at rules home nodes originator wanted n =
    option_map_or (λ r. do_give home originator wanted (rules r)) (at n nodes) false

-- the originator may do this to the resource of the number
abbrev pub grants : HomeData → List ResourceData → List ℕ → ℕ → ℕ → Bool
grants home nodes originator wanted n = gives_at (rules_of nodes) home nodes originator wanted n

-- the originator may change its `acpi`
abbrev pub relinks : HomeData → List ResourceData → List ℕ → ℕ → Bool
relinks home nodes originator n = gives_at (link_rules nodes) home nodes originator update_bit n

-- the originator may do this through the group of the number
abbrev pub fan_grants : HomeData → List ResourceData → List ℕ → ℕ → ℕ → Bool
fan_grants home nodes originator wanted n =
    gives_at (fan_rules nodes) home nodes originator wanted n
