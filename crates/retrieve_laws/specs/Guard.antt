-- By which right a reply tells of resources other than its target (TS-0001, 9.6.2).
use Rattle.std.specs.Prelude.{◌≡◌, ℕ, Bool, ◌||◌, List, [], Contains, Some, is_none, IsTrue}
use Rattle.std.specs.Prelude.{bytes_eq, false, true}
use Rattle.std.specs.List.{list_all, list_any}
use Rattle.std.specs.Option.{option_map_or}
use Rattle.m2m_names.specs.Ids.{count_bound}
use Rattle.m2m_value.specs.Data.{Data}
use Rattle.primitive_json.specs.declared.reply.ReplyParts.{ReplyParts}
use Rattle.resource_model.specs.Home.{HomeData}
use Rattle.resource_model.specs.Resource.{ResourceData, id_of}
use Rattle.policy_eval.specs.Rights.{discovery_bit, grants, retrieve_bit}
use Rattle.tree_model.specs.Tree.{are_below, at, child_of, is_tree}
use Rattle.addressing.specs.Laws.{have_free_names}
use Rattle.retrieve_discover.specs.Findings.{address_in}
use Rattle.retrieve_laws.specs.Told.{addresses_in, ids_below, references_in}

-- ---- addresses of resources

-- the address names the resource of the list: it is its resource id, or its structured address
-- (TS-0001, 9.3.1)
abbrev pub is_address_of : List ResourceData → List ℕ → ResourceData → Bool
is_address_of nodes address r =
    bytes_eq address (address_in true nodes r) || bytes_eq address (address_in false nodes r)

-- no resource without a parent, as the CSEBase is, is named as this one's resource id spells
abbrev pub is_no_name : List ResourceData → ResourceData → Bool
is_no_name nodes r = is_none (child_of 0 (id_of r) nodes)

-- a tree whose names and numbers are such that no two resources have one address
pub record HasOwnAddresses (nodes : List ResourceData) : Type 0 where
  pub tree : IsTrue (is_tree nodes)
  pub names : IsTrue (have_free_names nodes)
  pub base : IsTrue (list_all (is_no_name nodes) nodes)
  pub numbers : IsTrue (are_below count_bound nodes)

-- ---- rights on what they name

-- the address names some resource of the list, and on each that it names the originator has these
-- bits
pub record IsNamedByRight (home : HomeData) (nodes : List ResourceData) (originator : List ℕ)
    (bits : ℕ) (address : List ℕ) : Type 0 where
  pub some : IsTrue (list_any (is_address_of nodes address) nodes)
  pub each : (r : ResourceData) → at r.number nodes ≡ Some r
      → IsTrue (is_address_of nodes address r) → IsTrue (grants home nodes originator bits r.number)

-- each of these addresses does
abbrev pub AreNamedByRight : HomeData → List ResourceData → List ℕ → ℕ → List (List ℕ) → Type 0
AreNamedByRight home nodes originator bits addresses =
    (address : List ℕ) → Contains addresses address →
    IsNamedByRight home nodes originator bits address

-- of other resources a content shows those that the originator may retrieve, refers to such ones
-- alone, and gives the addresses of those that it may discover
pub record IsShownByRight (home : HomeData) (nodes : List ResourceData) (originator : List ℕ)
    (ids children addresses : List (List ℕ)) : Type 0 where
  pub below : AreNamedByRight home nodes originator retrieve_bit ids
  pub referred : AreNamedByRight home nodes originator retrieve_bit children
  pub found : AreNamedByRight home nodes originator discovery_bit addresses

abbrev pub OthersAreShownByRight : HomeData → List ResourceData → List ℕ → ReplyParts → Type 0
OthersAreShownByRight home nodes originator reply =
    IsShownByRight home nodes originator (told ids_below) (told references_in) (told addresses_in)
  where
    told : (Data → List (List ℕ)) → List (List ℕ)
    told part = option_map_or part reply.pc []
