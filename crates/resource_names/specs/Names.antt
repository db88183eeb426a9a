-- Numbers by names, and which resources of a list their names find.
use Rattle.std.specs.Prelude.{◌≡◌, ℕ, nat_eq, List, Bool, false, drop, Option, Some, None}
use Rattle.std.specs.Prelude.{option_and_then, if◌then◌else◌}
use Rattle.std.specs.HashMap.{HashMap, get, get_by}
use Rattle.std.specs.Option.{option_map_or}
use Rattle.std.specs.Str.{bytes_eq}
use Rattle.m2m_names.specs.Ids.{number_written, word_len}
use Rattle.resource_model.specs.Resource.{ResourceData, ae_id, cse_id}
use Rattle.tree_model.specs.Tree.{at}
use Rattle.resource_names.specs.declared.names.Names.{Names}
use Rattle.resource_names.specs.declared.named.Named.{Named}

-- the number that a table has for a name
abbrev pub number_by : List ℕ → Names → Option ℕ
number_by name names = get_by (λ k. bytes_eq name k.items) names.numbers

-- the number that the table of a parent has for a name
abbrev pub named_at : {S : Type 0} → HashMap ℕ Names S → ℕ → List ℕ → Option ℕ
named_at m parent name =
    option_and_then (λ (names : Names). number_by name names) (get nat_eq m parent)

-- the number that a name tells, as cin_17 does: that of its digits, from the first one on
abbrev pub number_told : List ℕ → Option ℕ
number_told name = number_written (drop (word_len name) name)

-- its name tells its own number
abbrev pub tells_itself : ResourceData → Bool
tells_itself r = option_map_or (nat_eq r.number) (number_told r.name) false

-- the number, where the resource of it passes a test
abbrev pub checked : (ResourceData → Bool) → List ResourceData → Option ℕ → Option ℕ
checked p nodes number =
    option_and_then (λ n. if option_map_or p (at n nodes) false then Some n else None) number

-- each resource whose name doesn't tell its number is found by its parent and its name
abbrev pub HasNames : {S : Type 0} → List ResourceData → HashMap ℕ Names S → Type 0
HasNames nodes m =
    (r : ResourceData) → at r.number nodes ≡ Some r → tells_itself r ≡ false
    → named_at m r.parent r.name ≡ Some r.number

-- each resource that has an id of a kind is found by it
abbrev pub HasIds : (ResourceData → Option (List ℕ)) → List ResourceData → Names → Type 0
HasIds id nodes names =
    (r : ResourceData) (text : List ℕ) → at r.number nodes ≡ Some r → id r ≡ Some text
    → number_by text names ≡ Some r.number

-- the names of children, the AE-IDs and the CSE-IDs find the resources of the list; what else they
-- find may have gone
pub record IsNamed (nodes : List ResourceData) (named : Named) : Type 0 where
  pub children : HasNames nodes named.children
  pub aes : HasIds ae_id nodes named.aes
  pub cses : HasIds cse_id nodes named.cses
