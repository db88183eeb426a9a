-- What comes of an operation, its changes told (TS-0001, 9.6.8 and 10.2.10).
use Rattle.std.specs.Prelude.{◌≡◌, ℕ, Bool, false, List, [], filter, Option, Some, IsTrue}
use Rattle.std.specs.Prelude.{if◌then◌else◌}
use Rattle.std.specs.List.{list_any}
use Rattle.m2m_names.specs.declared.attributes.Attr.{Attr}
use Rattle.m2m_names.specs.declared.operations.Op.{Op}
use Rattle.m2m_names.specs.declared.types.Ty.TheVariants.{ContentInstance, Subscription}
use Rattle.primitive_json.specs.declared.request.RequestParts.{RequestParts}
use Rattle.resource_model.specs.Home.{HomeData}
use Rattle.resource_model.specs.Resource.{ResourceData, has_number, is_ty}
use Rattle.subscription_match.specs.Notices.{notes_of_all}
use Rattle.subscription_match.specs.declared.drafts.DraftParts.{DraftParts}
use Rattle.tree_model.specs.Changes.{ChangeData, creation_changes, deletion_changes}
use Rattle.tree_model.specs.Changes.{removal_changes, update_changes}
use Rattle.tree_model.specs.Tree.{at, is_at_or_below, line_of, numbers_of, without}
use Rattle.announce_copy.specs.Below.{lists_peers}
use Rattle.announce_copy.specs.Copies.{copies_of_all}
use Rattle.entity_model.specs.Entity.{EntityData, telling}
use Rattle.entity_model.specs.Places.{Effect, on_found, unless_refused}
use Rattle.request_rules.specs.Order.{places}
use Rattle.create_delete.specs.Changes.{changes_by, only_in}
use Rattle.create_delete.specs.Changing.{after_joining, effect_at, effect_by, nodes_updated}
use Rattle.create_delete.specs.Joining.{gone_by}
use Rattle.create_delete.specs.declared.joining.ContainerUpdate.{ContainerUpdate}

-- ---- of each operation

-- the entity with a new resource, and with what that does besides, told of both
abbrev pub joined_told : EntityData → ResourceData → Option ContainerUpdate → EntityData
joined_told e r f =
    telling e.nodes (gone_by f) (creation_changes e.nodes r (gone_by f)) (after_joining e r f)

-- Copies may follow where a resource joins under another one, and instances are pushed out there:
-- this lists a CSE in `at`; of an instance and of those the other one, which is their container.
abbrev pub copies_may_follow : ResourceData → ResourceData → Bool
copies_may_follow parent r =
    if is_ty r.ty ContentInstance then lists_peers parent else lists_peers r

-- No copy follows where those of these numbers go, unless the resource of the other number lists a
-- CSE in `at`. So it is of instances that a container pushes out.
abbrev pub GoUnsent : HomeData → List ResourceData → ℕ → List ℕ → Type 0
GoUnsent home nodes n gone =
    (r : ResourceData) → at n nodes ≡ Some r → lists_peers r ≡ false
    → copies_of_all home nodes (removal_changes nodes gone) ≡ []

-- the entity in which the second resource is the first one after an Update of these attributes, and
-- those of these numbers are pushed out, told of both
abbrev pub updated_told :
    EntityData → ResourceData → ResourceData → List Attr → List ℕ → EntityData
updated_told e r s named gone =
    telling e.nodes gone (update_changes e.nodes r s named gone)
    (record e { nodes = nodes_updated e s })

-- the numbers of a resource and of all that stands below it, in order of creation
abbrev pub numbers_below : ℕ → List ResourceData → List ℕ
numbers_below n nodes = numbers_of (filter (is_at_or_below n nodes) nodes)

-- the entity without the resource of a number and all that stands below it, told of each
abbrev pub removed_told : EntityData → ℕ → EntityData
removed_told e n =
    telling e.nodes (numbers_below n e.nodes) (deletion_changes e.nodes n)
    (record e { nodes = without (has_number n) e.nodes })

-- no subscription stands under the resource of a number, or under what stands below that
abbrev pub IsSilent : ℕ → List ResourceData → Type 0
IsSilent n nodes =
    (t : ResourceData) → at t.number nodes ≡ Some t → IsTrue (is_ty t.ty Subscription)
    → list_any (has_number n) (line_of t.parent nodes) ≡ false

-- ---- of an operation that may change something

-- the numbers of what stands in the first entity alone, in order of creation
abbrev pub gone_numbers : EntityData → EntityData → List ℕ
gone_numbers before after = numbers_of (only_in before.nodes after.nodes)

-- What an operation gives that makes these changes of the entity: the reply as it is, and the
-- entity after it told of them, in which subscriptions that count are lowered, or go.
abbrev pub told_effect : EntityData → List ChangeData → Effect → Effect
told_effect e changes effect = record effect {
  after = telling e.nodes (gone_numbers e effect.after) changes effect.after;
}

-- what it does where it isn't refused, and tells
abbrev pub told_effect_by : Op → EntityData → List ℕ → RequestParts → ResourceData → Effect
told_effect_by op e originator request target =
    told_effect e
    (changes_by op request target.number e (effect_by op e originator request target).after)
    (effect_by op e originator request target)

-- What comes of it on a resource that is there, and is told. A refusal tells nothing.
abbrev pub told_effect_on : Op → EntityData → List ℕ → RequestParts → ResourceData → Effect
told_effect_on op e originator request target =
    unless_refused (places op e originator request target) e request
    (told_effect_by op e originator request target)

-- What an operation tells of what it does to the first entity, which leaves the second.
abbrev pub drafts_between : Op → RequestParts → ℕ → EntityData → EntityData → List DraftParts
drafts_between op request n before after =
    notes_of_all after.home before.nodes (gone_numbers before after)
    (changes_by op request n before after)

-- what it tells on the resource of a number
abbrev pub drafts_at : Op → EntityData → List ℕ → RequestParts → ℕ → List DraftParts
drafts_at op e originator request n =
    drafts_between op request n e (effect_at op e originator request n).after

-- what comes of it on the resource of a number, which is looked up once
abbrev pub told_effect_at : Op → EntityData → List ℕ → RequestParts → ℕ → Effect
told_effect_at op e originator request n =
    on_found e request (told_effect_on op e originator request) (at n e.nodes)
