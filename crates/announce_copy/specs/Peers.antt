-- To which CSEs a resource is announced: `at` (announceTo; TS-0001, 9.6.26).
use Rattle.std.specs.Prelude.{◌≡◌, ℕ, Bool, List, [], filter, Option, Some}
use Rattle.std.specs.Prelude.{if◌then◌else◌, IsUtf8}
use Rattle.std.specs.BTreeSet.{BTreeSet, contains_by}
use Rattle.std.specs.Cmp.Lexicographic.{slice_cmp}
use Rattle.std.specs.List.{AllByRecursion}
use Rattle.std.specs.Map.{lookup}
use Rattle.std.specs.Option.{option_map_or}
use Rattle.std.specs.Ordering.{is_eq, nat_cmp}
use Rattle.std.specs.declared.vec.Vec.{Vec}
pub use Rattle.m2m_names.specs.Name.{is_one_of}
use Rattle.m2m_names.specs.declared.attributes.Attr.TheVariants.{At}
use Rattle.m2m_names.specs.declared.types.Ty.TheVariants.{ContentInstance}
use Rattle.policy_eval.specs.Rules.{listed_in, texts_of}
pub use Rattle.policy_eval.specs.Rules.{each_once, new_after}
use Rattle.resource_model.specs.Attributes.{value_of}
use Rattle.resource_model.specs.Resource.{ResourceData, is_ty}
use Rattle.tree_model.specs.Tree.{at}

-- the CSE-IDs that a resource lists in `at`
abbrev pub listed_peers : ResourceData → List (List ℕ)
listed_peers r = texts_of (listed_in (value_of At r.attrs))

-- those that the resource of a number lists, each once
abbrev pub peers_at : ℕ → List ResourceData → List (List ℕ)
peers_at n nodes = option_map_or (λ r. each_once (listed_peers r)) (at n nodes) []

-- The CSEs to which a resource is announced, by their CSE-IDs, each once: those in its `at`. The
-- copy of an instance stands below that of its container, and so an instance is announced only to
-- those that are in the `at` of the container too, as this stands in the list.
abbrev pub peers_of : List ResourceData → ResourceData → List (List ℕ)
peers_of nodes r =
    if is_ty r.ty ContentInstance
    then each_once (filter (is_one_of (peers_at r.parent nodes)) (listed_peers r))
    else each_once (listed_peers r)

-- ---- as the code keeps them

-- the set has a text
abbrev pub has_text : {Z : Type 0} → BTreeSet (Vec ℕ Z) → List ℕ → Bool
has_text set text = contains_by (λ k. slice_cmp nat_cmp text k.items) set

-- the set has these texts alone, which are UTF-8
pub record AreTexts {Z : Type 0} (texts : List (List ℕ)) (set : BTreeSet (Vec ℕ Z)) : Type 0 where
  pub same : (text : List ℕ) → has_text set text ≡ is_one_of texts text
  pub utf8 : AllByRecursion IsUtf8 texts

-- what is noted at the number of a resource
abbrev pub noted_at : List (ℕ × List (List ℕ)) → ℕ → Option (List (List ℕ))
noted_at rows n = lookup (λ m. is_eq (nat_cmp n m)) rows

-- what is noted at the numbers of containers is so
pub record AreNoted (nodes : List ResourceData) (rows : List (ℕ × List (List ℕ))) : Type 0 where
  pub says : (n : ℕ) (peers : List (List ℕ)) → noted_at rows n ≡ Some peers
      → peers ≡ peers_at n nodes
