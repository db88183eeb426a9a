-- The law of announced copies: they follow their originals (TS-0001, 9.6.26 and 10.2.18).
use Rattle.std.specs.Prelude.{◌≡◌, ◌⊎◌, ℕ, ◌<◌, ◌==◌, Bool, true, false, List, [], ◌∷◌, ◌++◌}
use Rattle.std.specs.Prelude.{map, filter, not, IsTrue, Option, Some, None, is_some}
use Rattle.std.specs.Prelude.{if◌then◌else◌}
use Rattle.std.specs.List.{AllByRecursion, list_any}
use Rattle.m2m_names.specs.Ids.{count_bound}
use Rattle.m2m_names.specs.declared.attributes.Attr.{Attr}
use Rattle.m2m_names.specs.declared.attributes.Attr.TheVariants.{Et, Lbl, Lnk, Mid, Rn}
use Rattle.m2m_names.specs.declared.types.Ty.TheVariants.{Container, ContentInstance}
use Rattle.m2m_value.specs.Data.{Data, text}
use Rattle.attribute_kinds.specs.Kinds.{is_cse_id, is_content}
use Rattle.policy_eval.specs.Rules.{is_attr_in}
use Rattle.resource_model.specs.Attributes.{is_attr, value_of}
use Rattle.resource_model.specs.Home.{HomeData}
use Rattle.resource_model.specs.Resource.{ResourceData, has_number, is_ty}
use Rattle.subscription_match.specs.Notices.{reference_of}
use Rattle.tree_model.specs.Changes.{ChangeData, created, updated, deleted}
use Rattle.tree_model.specs.Shown.{shown_moment}
use Rattle.tree_model.specs.Tree.{at, is_spared, is_well_formed, replaced, without}
use Rattle.announce_copy.specs.Announced.{announceable_attrs, announced_value, copy_name}
use Rattle.announce_copy.specs.Announced.{does_renew}
use Rattle.announce_copy.specs.Copies.{CopyDraft, copies_of_all, copy_address}
use Rattle.announce_copy.specs.Peers.{listed_peers}
use Rattle.copy_laws.specs.Replica.{Kept, effects, replica, those_to}
use Rattle.copy_laws.specs.Standing.{Instances, has_copy, is_parent_announced_to, stood_after}

-- ---- what a copy has

-- what every copy has: the time of expiry, the labels, the address of the original, and its name
abbrev pub common_value : HomeData → ResourceData → Attr → Option Data
common_value home r attr =
    if is_attr attr Et then Some (shown_moment r.et)
    else (if is_attr attr Lbl then value_of Lbl r.attrs
    else (if is_attr attr Lnk then Some (text (reference_of home r))
    else (if is_attr attr Rn then Some (text (copy_name r.ty r.number)) else None)))

-- the value of an attribute in the copy of a resource, if it has one: of one that can be announced
-- what is announced
abbrev pub value_in_copy : HomeData → ResourceData → Attr → Option Data
value_in_copy home r attr =
    if is_attr_in (announceable_attrs r.ty) attr then announced_value r attr
    else common_value home r attr

-- A resource is such as a CSE keeps: its number is a count, so is its parent's, it is announced to
-- CSE-IDs, and no value of it is null.
pub record IsKept (r : ResourceData) : Type 0 where
  pub number : r.number < count_bound
  pub parent : r.parent < count_bound
  pub peers : AllByRecursion (λ peer. is_cse_id peer ≡ true) (listed_peers r)
  pub values : (attr : Attr) (d : Data) → value_of attr r.attrs ≡ Some d → is_content d ≡ true

-- At a CSE stands what follows these resources, of which these instances have stood with their
-- containers: each that has a copy has one entry at the address of that, with its values (of a
-- group's members this isn't said), and there is no other entry.
pub record DoFollow (home : HomeData) (peer : List ℕ) (stood : Instances)
    (nodes : List ResourceData) (keeps : List ℕ → Attr → Kept) : Type 0 where
  pub has :
      (r : ResourceData) (attr : Attr) → at r.number nodes ≡ Some r
      → has_copy peer stood r ≡ true
      → is_some (keeps (copy_address home peer r) attr) ≡ true
  pub values :
      (r : ResourceData) (attr : Attr) → at r.number nodes ≡ Some r
      → has_copy peer stood r ≡ true → is_attr attr Mid ≡ false
      → keeps (copy_address home peer r) attr ≡ Some (value_in_copy home r attr)
  pub only :
      (address : List ℕ) (attr : Attr) → is_some (keeps address attr) ≡ true
      → (r : ResourceData) × (at r.number nodes ≡ Some r) × (has_copy peer stood r ≡ true)
      × (address ≡ copy_address home peer r)

-- ---- operations

-- The second resource is the first, as its copies have it: they are announced to the same CSEs,
-- with the same values but of a group's members.
pub record IsAlike (home : HomeData) (r s : ResourceData) : Type 0 where
  pub number : r.number ≡ s.number
  pub ty : r.ty ≡ s.ty
  pub parent : r.parent ≡ s.parent
  pub peers : listed_peers r ≡ listed_peers s
  pub values :
      (attr : Attr) → is_attr attr Mid ≡ false
      → value_in_copy home r attr ≡ value_in_copy home s attr

-- what an operation does before it removes: it makes a resource, or changes one by an Update that
-- named these attributes
pub data Lead : Type 0 where
  nothing : Lead
  made : ResourceData → Lead
  changed : ResourceData → ResourceData → List Attr → Lead

-- The resource of the number is the one that it makes or changes.
abbrev pub does_lead : Lead → ℕ → Bool
does_lead nothing n = false
does_lead (made t) n = t.number == n
does_lead (changed r t named) n = r.number == n

-- its changes: that one, and then what is removed
abbrev pub lead_changes : Lead → List ChangeData
lead_changes nothing = []
lead_changes (made t) = created t ∷ []
lead_changes (changed r t named) = updated r t named ∷ []

abbrev pub changes_of : Lead → List ResourceData → List ChangeData
changes_of lead gone = lead_changes lead ++ map deleted gone

-- What an operation leaves of a resource that it makes or changes is as that, for its copies; one
-- that it doesn't leave is announced to none.
pub record StaysAlike (home : HomeData) (t : ResourceData) (after : List ResourceData)
    : Type 0 where
  pub alike : (s : ResourceData) → at t.number after ≡ Some s → IsAlike home t s
  pub lost : at t.number after ≡ None → listed_peers t ≡ []

-- the resource is new, and its parent stays announced as it was
pub record IsMade (home : HomeData) (before after : List ResourceData) (t : ResourceData)
    : Type 0 where
  pub kept : IsKept t
  pub new : at t.number before ≡ None
  pub stays : StaysAlike home t after
  pub parent :
      (peer : List ℕ)
      → is_parent_announced_to peer before t ≡ is_parent_announced_to peer after t

-- the second is the first after an Update, and no instance; where no name of it is one that copies
-- follow, its copies have what they had
pub record IsChanged (home : HomeData) (before after : List ResourceData) (r t : ResourceData)
    (named : List Attr) : Type 0 where
  pub kept : IsKept t
  pub there : at r.number before ≡ Some r
  pub stays : StaysAlike home t after
  pub number : r.number ≡ t.number
  pub ty : r.ty ≡ t.ty
  pub parent : r.parent ≡ t.parent
  pub instance : is_ty t.ty ContentInstance ≡ false
  pub unnamed :
      does_renew named t ≡ false → (attr : Attr) → is_attr attr Mid ≡ false
      → value_in_copy home r attr ≡ value_in_copy home t attr

abbrev pub DoesLead : HomeData → List ResourceData → List ResourceData → Lead → Type 0
DoesLead home before after nothing = Unit {0}
DoesLead home before after (made t) = IsMade home before after t
DoesLead home before after (changed r t named) = IsChanged home before after r t named

-- it was there, is gone, and nothing is left below it
pub record IsGone (before after : List ResourceData) (r : ResourceData) : Type 0 where
  pub there : at r.number before ≡ Some r
  pub gone : at r.number after ≡ None
  pub below : (s : ResourceData) → at s.number after ≡ Some s → s.parent ≡ r.number → ⊥

-- An operation makes or changes one resource, or none, and then removes some. Every other stays as
-- it is for its copies, and what else is lost had none.
pub record IsOperation (home : HomeData) (before : List ResourceData) (lead : Lead)
    (gone : List ResourceData) (after : List ResourceData) : Type 0 where
  pub kept : (r : ResourceData) → at r.number before ≡ Some r → IsKept r
  pub left : (s : ResourceData) → at s.number after ≡ Some s → IsKept s
  pub leads : DoesLead home before after lead
  pub removes : AllByRecursion (IsGone before after) gone
  pub others :
      (s : ResourceData) → at s.number after ≡ Some s → does_lead lead s.number ≡ false
      → (r : ResourceData) × (at s.number before ≡ Some r) × IsAlike home r s
  pub lost :
      (r : ResourceData) → at r.number before ≡ Some r → does_lead lead r.number ≡ false
      → at r.number after ≡ None
      → (list_any (has_number r.number) gone ≡ true) ⊎ (listed_peers r ≡ [])
  pub containers :
      (r c : ResourceData) → at r.number before ≡ Some r → is_ty r.ty ContentInstance ≡ true
      → at r.parent before ≡ Some c → c.ty ≡ Container

-- What some resources become changes nothing for their copies: each is as it was, or is lost, and
-- then it is announced to none.
pub record IsQuiet (home : HomeData) (before after : List ResourceData) : Type 0 where
  pub left : (s : ResourceData) → at s.number after ≡ Some s → IsKept s
  pub alike :
      (s : ResourceData) → at s.number after ≡ Some s
      → (r : ResourceData) × (at s.number before ≡ Some r) × IsAlike home r s
  pub lost :
      (r : ResourceData) → at r.number before ≡ Some r → at r.number after ≡ None
      → listed_peers r ≡ []

-- ---- the law of one operation

-- These instances stand, and their containers are announced to the CSE.
abbrev pub DoStand : List ℕ → List ResourceData → Instances → Type 0
DoStand peer nodes stood =
    (n : ℕ) → stood n ≡ true
    → (r : ResourceData) × (at n nodes ≡ Some r) × (is_ty r.ty ContentInstance ≡ true)
    × (is_parent_announced_to peer nodes r ≡ true)

-- What is kept at a CSE follows an operation, once what it sends there is carried out.
abbrev pub CopiesFollowAnOperation : Type 0
CopiesFollowAnOperation =
    (home : HomeData) (peer : List ℕ) (before : List ResourceData) (lead : Lead)
    (gone after : List ResourceData) (stood : Instances) (keeps : List ℕ → Attr → Kept)
    → is_cse_id peer ≡ true → IsOperation home before lead gone after
    → DoStand peer before stood → DoFollow home peer stood before keeps
    → DoFollow home peer (stood_after peer stood before after) after
    (λ address attr. effects (those_to peer (copies_of_all home before (changes_of lead gone)))
    address attr (keeps address attr))

-- What changes nothing for copies, behind an operation, belongs to it.
abbrev pub QuietChangesBelongToOperations : Type 0
QuietChangesBelongToOperations =
    (home : HomeData) (before : List ResourceData) (lead : Lead)
    (gone middle after : List ResourceData) → IsOperation home before lead gone middle
    → IsQuiet home middle after → IsOperation home before lead gone after

-- what a removal of these takes, with all that stands below, in order of creation
abbrev pub taken_with : (ResourceData → Bool) → List ResourceData → List ResourceData
taken_with picks nodes = filter (λ r. not (is_spared picks nodes r.number)) nodes

-- A removal is an operation, where resources are such as a CSE keeps.
abbrev pub RemovalsAreOperations : Type 0
RemovalsAreOperations =
    (home : HomeData) (picks : ResourceData → Bool) (nodes : List ResourceData)
    → IsTrue (is_well_formed nodes)
    → ((r : ResourceData) → at r.number nodes ≡ Some r → IsKept r)
    → IsOperation home nodes nothing (taken_with picks nodes) (without picks nodes)

-- A new resource is an operation.
abbrev pub JoiningIsAnOperation : Type 0
JoiningIsAnOperation =
    (home : HomeData) (nodes : List ResourceData) (t : ResourceData)
    → IsTrue (is_well_formed nodes) → at t.number nodes ≡ None → t.parent < t.number → IsKept t
    → ((r : ResourceData) → at r.number nodes ≡ Some r → IsKept r)
    → IsOperation home nodes (made t) [] (nodes ++ t ∷ [])

-- So is one that takes the place of another, but for instances: it is the same but for its values,
-- and where no name is one that copies follow, its copies have what they had.
abbrev pub ReplacingIsAnOperation : Type 0
ReplacingIsAnOperation =
    (home : HomeData) (nodes : List ResourceData) (r t : ResourceData) (named : List Attr)
    → IsTrue (is_well_formed nodes) → at r.number nodes ≡ Some r → r.number ≡ t.number
    → r.ty ≡ t.ty → r.parent ≡ t.parent → is_ty t.ty ContentInstance ≡ false
    → (does_renew named t ≡ false → (attr : Attr) → is_attr attr Mid ≡ false
    → value_in_copy home r attr ≡ value_in_copy home t attr)
    → IsKept t → ((s : ResourceData) → at s.number nodes ≡ Some s → IsKept s)
    → IsOperation home nodes (changed r t named) [] (replaced t nodes)

-- a removal takes it, which was there before the operation
pub record IsTaken (before middle : List ResourceData) (picks : ResourceData → Bool)
    (r : ResourceData) : Type 0 where
  pub there : at r.number before ≡ Some r
  pub picked : is_spared picks middle r.number ≡ false

-- A removal behind an operation takes these, which were there before it, and spares what the
-- operation makes or changes.
pub record DoesTake (before middle : List ResourceData) (picks : ResourceData → Bool)
    (lead : Lead) (gone : List ResourceData) : Type 0 where
  pub taken : AllByRecursion (IsTaken before middle picks) gone
  pub all :
      (r : ResourceData) → at r.number before ≡ Some r
      → is_spared picks middle r.number ≡ false → list_any (has_number r.number) gone ≡ true
  pub spares : (n : ℕ) → does_lead lead n ≡ true → is_spared picks middle n ≡ true
  pub there : (n : ℕ) → does_lead lead n ≡ true → at n middle ≡ None → ⊥

-- It belongs to the operation.
abbrev pub RemovalsBelongToOperations : Type 0
RemovalsBelongToOperations =
    (home : HomeData) (before middle : List ResourceData) (picks : ResourceData → Bool)
    (lead : Lead) (gone : List ResourceData) → IsTrue (is_well_formed middle)
    → IsOperation home before lead [] middle → DoesTake before middle picks lead gone
    → IsOperation home before lead gone (without picks middle)

-- ---- the law of a run

-- an operation: what it makes or changes, what it removes, and what it leaves
pub record Operation : Type 0 where
  pub lead : Lead
  pub gone : List ResourceData
  pub after : List ResourceData

-- operations one after another, from these resources to others
abbrev pub IsRun : HomeData → List ResourceData → List Operation → List ResourceData → Type 0
IsRun home before [] after = before ≡ after
IsRun home before (o ∷ run) after =
    IsOperation home before o.lead o.gone o.after × IsRun home o.after run after

-- what they send, one after another, each by the resources that it found
abbrev pub sent_along : HomeData → List ResourceData → List Operation → List CopyDraft
sent_along home before [] = []
sent_along home before (o ∷ run) =
    copies_of_all home before (changes_of o.lead o.gone) ++ sent_along home o.after run

-- the instances that have stood with their containers' copies since they came
abbrev pub stood_along : List ℕ → Instances → List ResourceData → List Operation → Instances
stood_along peer stood before [] = stood
stood_along peer stood before (o ∷ run) =
    stood_along peer (stood_after peer stood before o.after) o.after run

-- no instance
abbrev pub no_instance : Instances
no_instance n = false

-- From resources none of which is announced, what stands at a CSE follows every run of operations,
-- once what they send there is carried out in their order.
abbrev pub CopiesFollow : Type 0
CopiesFollow =
    (home : HomeData) (peer : List ℕ) (before : List ResourceData) (run : List Operation)
    (after : List ResourceData) → is_cse_id peer ≡ true
    → ((r : ResourceData) → at r.number before ≡ Some r → listed_peers r ≡ [])
    → IsRun home before run after
    → DoFollow home peer (stood_along peer no_instance before run) after
    (replica peer (sent_along home before run))
