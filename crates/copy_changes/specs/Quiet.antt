-- What changes nothing for copies (TS-0001, 9.6.8).
use Rattle.std.specs.Prelude.{◌≡◌, ℕ, Bool, true, false, List, [], Some, None, IsTrue}
use Rattle.std.specs.List.{list_all}
use Rattle.m2m_names.specs.declared.types.Ty.TheVariants.{ContentInstance}
use Rattle.resource_model.specs.Home.{HomeData}
use Rattle.resource_model.specs.Resource.{ResourceData, is_ty}
use Rattle.subscription_match.specs.Spending.{nodes_spent}
use Rattle.subscription_match.specs.declared.drafts.DraftParts.{DraftParts}
use Rattle.tree_model.specs.Changes.{those_of}
use Rattle.tree_model.specs.Tree.{at, is_numbered_in, is_well_formed, restamped_at, without}
use Rattle.tree_model.specs.Tree.{without_all}
use Rattle.attribute_rules.specs.Kinds.{are_kinds}
use Rattle.copy_laws.specs.Following.{IsKept, IsOperation, IsQuiet, Lead, does_lead, nothing}
use Rattle.copy_laws.specs.Following.{taken_with}

-- Subscriptions that are lowered, and those that are spent and go, change nothing for copies.
abbrev pub SpendingIsQuiet : Type 0
SpendingIsQuiet =
    (home : HomeData) (drafts : List DraftParts) (nodes : List ResourceData)
    → IsTrue (is_well_formed nodes) → IsTrue (list_all are_kinds nodes)
    → ((r : ResourceData) → at r.number nodes ≡ Some r → IsKept r)
    → IsQuiet home nodes (nodes_spent drafts nodes)

-- A removal of these, with all that stands below, whose changes are then told, is an operation.
abbrev pub ToldRemovalsAreOperations : Type 0
ToldRemovalsAreOperations =
    (home : HomeData) (picks : ResourceData → Bool) (drafts : List DraftParts)
    (nodes : List ResourceData)
    → IsTrue (is_well_formed nodes) → IsTrue (list_all are_kinds nodes)
    → ((r : ResourceData) → at r.number nodes ≡ Some r → IsKept r)
    → IsOperation home nodes nothing (taken_with picks nodes)
    (nodes_spent drafts (without picks nodes))

-- An operation that found the first and left the second then pushes out those of these numbers:
-- instances that it found, and none that it makes or changes.
pub record PushesOut (before middle : List ResourceData) (lead : Lead) (gone : List ℕ)
    : Type 0 where
  pub stays :
      (r : ResourceData) → at r.number before ≡ Some r
      → (s : ResourceData) × (at r.number middle ≡ Some s)
  pub instances :
      (s : ResourceData) → at s.number middle ≡ Some s → is_numbered_in gone s ≡ true
      → is_ty s.ty ContentInstance ≡ true
  pub others :
      (s : ResourceData) → at s.number middle ≡ Some s → does_lead lead s.number ≡ true
      → is_numbered_in gone s ≡ false
  pub there : (n : ℕ) → does_lead lead n ≡ true → at n middle ≡ None → ⊥

-- An operation that makes or changes a resource, then pushes out instances, and whose changes are
-- then told, is one.
abbrev pub ToldChangesAreOperations : Type 0
ToldChangesAreOperations =
    (home : HomeData) (drafts : List DraftParts) (before middle : List ResourceData) (lead : Lead)
    (gone : List ℕ)
    → IsTrue (is_well_formed middle) → IsTrue (list_all are_kinds middle)
    → IsOperation home before lead [] middle → PushesOut before middle lead gone
    → IsOperation home before lead (those_of gone before)
    (nodes_spent drafts (without_all gone middle))

-- That a container counts its changes changes nothing for copies.
abbrev pub RestampingIsQuiet : Type 0
RestampingIsQuiet =
    (home : HomeData) (n lt st : ℕ) (nodes : List ResourceData)
    → ((r : ResourceData) → at r.number nodes ≡ Some r → IsKept r)
    → IsQuiet home nodes (restamped_at n lt st nodes)
