-- What an operation may change, and by what right (TS-0001, 9.6.2).
use Rattle.std.specs.Prelude.{◌≡◌, ◌≢◌, ◌⊎◌, ◌<◌, ◌≤◌, ◌-◌, ℕ, Bool, false, List, [], ◌∷◌, Some}
use Rattle.std.specs.Prelude.{IsTrue, None, if◌then◌else◌}
use Rattle.m2m_names.specs.declared.attributes.Attr.{Attr}
use Rattle.m2m_names.specs.declared.attributes.Attr.TheVariants.{Acpi, St}
use Rattle.m2m_names.specs.declared.operations.Op.{Op}
use Rattle.m2m_names.specs.declared.operations.Op.TheVariants.{Create, Retrieve, Update, Delete}
use Rattle.m2m_names.specs.declared.operations.Op.TheVariants.{Notify}
use Rattle.m2m_names.specs.declared.types.Ty.{Ty}
use Rattle.m2m_names.specs.declared.types.Ty.TheVariants.{Container, Subscription}
use Rattle.m2m_value.specs.Data.{Entry}
use Rattle.primitive_json.specs.declared.request.RequestParts.{RequestParts}
use Rattle.resource_model.specs.Attributes.{value_of}
use Rattle.resource_model.specs.Resource.{ResourceData, is_ty}
use Rattle.subscription_match.specs.Spending.{count_for, left_to}
use Rattle.subscription_match.specs.declared.drafts.DraftParts.{DraftParts}
use Rattle.tree_model.specs.Tree.{at, is_at_or_below, is_instance, recounted}
use Rattle.policy_eval.specs.Rules.{is_attr_in}
use Rattle.policy_eval.specs.Rights.{create_bit, update_bit, delete_bit, relinks}
use Rattle.entity_model.specs.Entity.{EntityData}
use Rattle.request_rules.specs.Rights.{is_granted}

-- ---- what is changed

-- a resource that is only in the list after, that is only in the one before, and that differs
abbrev pub IsNew : List ResourceData → List ResourceData → ResourceData → Type 0
IsNew before after r = (at r.number before ≡ None) × (at r.number after ≡ Some r)

abbrev pub IsGone : List ResourceData → List ResourceData → ResourceData → Type 0
IsGone before after r = (at r.number before ≡ Some r) × (at r.number after ≡ None)

pub record IsChanged (before after : List ResourceData) (r s : ResourceData) : Type 0 where
  pub same : s.number ≡ r.number
  pub was : at r.number before ≡ Some r
  pub is : at s.number after ≡ Some s
  pub differs : s ≢ r

-- The resource differs in nothing but its attributes, its expiry and its last change, and the
-- policies that it names stay (TS-0001, 10.2.4).
pub record IsUpdated (r s : ResourceData) : Type 0 where
  pub rest : s ≡ record r { lt = s.lt; et = s.et; attrs = s.attrs }
  pub links : value_of Acpi s.attrs ≡ value_of Acpi r.attrs

-- The resource differs in nothing but these attributes and its last change.
pub record DiffersIn (attrs : List Attr) (r s : ResourceData) : Type 0 where
  pub rest : s ≡ record r { lt = s.lt; attrs = s.attrs }
  pub others : (a : Attr) → is_attr_in attrs a ≡ false → value_of a s.attrs ≡ value_of a r.attrs

-- what an Update of `acpi` alone changes: `acpi`, and the state tag that a container has (TS-0001,
-- 9.6.1.3.2)
abbrev pub link_attrs : Ty → List Attr
link_attrs ty = if is_ty ty Container then Acpi ∷ St ∷ [] else Acpi ∷ []

-- what a new instance changes of its container: the state tag (TS-0001, 9.6.6)
abbrev pub container_update_attrs : List Attr
container_update_attrs = St ∷ []

-- ---- by what right

-- Some of what was told is for the subscription, less than what was left to it; and nothing but how
-- many notifications are left to it differs, which is lowered by that many (TS-0001, 9.6.8:
-- expirationCounter).
pub record IsLowered (drafts : List DraftParts) (r s : ResourceData) : Type 0 where
  pub kind : IsTrue (is_ty r.ty Subscription)
  pub old : ℕ
  pub counted : left_to r ≡ Some old
  pub told : 0 < count_for r.number drafts
  pub more : count_for r.number drafts < old
  pub rest : s ≡ recounted (old - count_for r.number drafts) r

-- Some of what was told is for the subscription, and no less than what was left to it.
pub record IsSpentBy (drafts : List DraftParts) (r : ResourceData) : Type 0 where
  pub kind : IsTrue (is_ty r.ty Subscription)
  pub old : ℕ
  pub counted : left_to r ≡ Some old
  pub told : 0 < count_for r.number drafts
  pub all : old ≤ count_for r.number drafts

-- A resource that stays was changed by UPDATE, in all but whom it is judged by; or the originator
-- may change its `acpi`, and that changed; or a new instance stands in it; or it is a subscription
-- that counts, and was lowered by what these drafts tell it.
abbrev pub IsChangedByRight :
    EntityData → List ℕ → List DraftParts → EntityData → ResourceData → ResourceData → Type 0
IsChangedByRight before originator drafts after r s =
    (IsTrue (is_granted before originator update_bit r.number) × IsUpdated r s)
    ⊎ ((IsTrue (relinks before.home before.nodes originator r.number)
    × DiffersIn (link_attrs r.ty) r s)
    ⊎ (((i : ResourceData) × IsNew before.nodes after.nodes i × IsTrue (is_instance r.number i)
    × DiffersIn container_update_attrs r s)
    ⊎ IsLowered drafts r s))

-- the operation may push out instances of the container of the number: by CREATE it adds one, or by
-- UPDATE it changes the container (TS-0001, 9.6.6)
abbrev pub may_push_out : Op → EntityData → List ℕ → ℕ → Bool
may_push_out Create e originator n = is_granted e originator create_bit n
may_push_out Retrieve e originator n = false
may_push_out Update e originator n = is_granted e originator update_bit n
may_push_out Delete e originator n = false
may_push_out Notify e originator n = false

-- The resource is at or below the target, which the originator may delete, or it is an instance of
-- the target that the operation may push out, or it is a subscription that counts, and is spent by
-- what these drafts tell it.
abbrev pub IsRemovedByRight :
    Op → EntityData → List ℕ → ℕ → List DraftParts → ResourceData → Type 0
IsRemovedByRight op before originator n drafts r =
    (IsTrue (is_at_or_below n before.nodes r)
    × IsTrue (is_granted before originator delete_bit n))
    ⊎ ((IsTrue (is_instance n r) × IsTrue (may_push_out op before originator n))
    ⊎ IsSpentBy drafts r)

-- An operation on the resource of a number changes nothing but by a grant to the originator, in the
-- entity before it: it creates under a target with CREATE, and changes and removes by right. The
-- entity itself counts what it tells subscriptions, which is these drafts.
pub record ChangesByRight (op : Op) (before : EntityData) (originator : List ℕ) (n : ℕ)
    (drafts : List DraftParts) (after : EntityData) : Type 0 where
  pub created : (r : ResourceData) → IsNew before.nodes after.nodes r
      → (r.parent ≡ n) × IsTrue (is_granted before originator create_bit n)
  pub changed : (r s : ResourceData) → IsChanged before.nodes after.nodes r s
      → IsChangedByRight before originator drafts after r s
  pub removed : (r : ResourceData) → IsGone before.nodes after.nodes r
      → IsRemovedByRight op before originator n drafts r
