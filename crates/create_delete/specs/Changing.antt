-- What a Create, an Update and a Delete leave, and what they reply (TS-0001, 10.2; TS-0004, 7.3.3
-- and 7.5.2).
use Rattle.std.specs.Prelude.{ℕ, ℤ, pos, Bool, ◌||◌, List, [], ◌∷◌, ◌++◌}
use Rattle.std.specs.Prelude.{◌+◌, codes, filter, Option, Some, None, if◌then◌else◌}
use Rattle.std.specs.Option.{option_map_or}
use Rattle.std.specs.Ordering.{int_eq}
use Rattle.m2m_names.specs.Members.{rce_name}
use Rattle.m2m_names.specs.declared.attributes.Attr.{Attr}
use Rattle.m2m_names.specs.declared.attributes.Attr.TheVariants.{Acpi, Et, Lt, Macp, St}
use Rattle.m2m_names.specs.declared.codes.Rsc.TheVariants.{BadChild, Created, Deleted, NotAllowed}
use Rattle.m2m_names.specs.declared.codes.Rsc.TheVariants.{Updated}
use Rattle.m2m_names.specs.declared.operations.Op.{Op}
use Rattle.m2m_names.specs.declared.operations.Op.TheVariants.{Create, Retrieve, Update, Delete}
use Rattle.m2m_names.specs.declared.operations.Op.TheVariants.{Notify}
use Rattle.m2m_names.specs.declared.types.Ty.TheVariants.{Container, ContentInstance}
use Rattle.m2m_value.specs.Data.{Data, Entry, number, object, pairs_of, text}
use Rattle.primitive_json.specs.Kinds.{nothing_wanted, attributes_wanted, address_wanted}
use Rattle.primitive_json.specs.declared.request.RequestParts.{RequestParts}
use Rattle.resource_model.specs.Attributes.{Row, is_attr}
use Rattle.resource_model.specs.Resource.{ResourceData, has_number, is_ty}
use Rattle.addressing.specs.Names.{structured_of}
use Rattle.attribute_rules.specs.Admission.{is_named}
use Rattle.attribute_rules.specs.Contents.{edit_in, edited}
use Rattle.container_limits.specs.Limits.{evicted, limits_of}
use Rattle.tree_model.specs.Shown.{attributes_of, members_of, shown_rows, typed_member}
use Rattle.tree_model.specs.Shown.{with_rows, wrapped}
use Rattle.tree_model.specs.Tree.{at, instances_of, replaced, restamped_at, without}
pub use Rattle.tree_model.specs.Tree.{is_numbered_in, without_all}
use Rattle.request_rules.specs.Creation.{Creation, new_resource, new_size, next_state}
use Rattle.entity_model.specs.Entity.{EntityData}
use Rattle.request_rules.specs.Order.{creation_by, places}
use Rattle.entity_model.specs.Places.{Effect, on_found, refused, reply_to, unless_refused}
use Rattle.entity_model.specs.Places.{wanted_content}
use Rattle.request_rules.specs.Groups.{group_rows, membership_edited}
use Rattle.request_rules.specs.Policies.{link_row}
use Rattle.request_rules.specs.Requests.{child_ty, expiry_for, named_by}
use Rattle.create_delete.specs.declared.joining.ContainerUpdate.{ContainerUpdate}

-- ---- what limits push out

-- the numbers of the instances that a container pushes out as it is, before one of this size, if
-- any, oldest first (TS-0001, 9.6.6)
abbrev pub pushed_out : EntityData → ResourceData → Option ℕ → List ℕ
pushed_out e container size =
    evicted (limits_of container) size e.last (instances_of container.number e.nodes)

-- ---- Create

-- The list with a new resource, which is the last in order of creation. An instance changes its
-- container too: that was changed at the moment, and has pushed out what doesn't fit beside it.
abbrev pub nodes_joined : ℕ → List ResourceData → ResourceData → Option ContainerUpdate
    → List ResourceData
nodes_joined moment nodes r None = nodes ++ r ∷ []
nodes_joined moment nodes r (Some f) =
    without_all f.gone (restamped_at f.container moment f.state (nodes ++ r ∷ []))

-- the entity with a new resource
abbrev pub after_joining : EntityData → ResourceData → Option ContainerUpdate → EntityData
after_joining e r f =
    record e { nodes = nodes_joined e.last e.nodes r f; next = e.next + 1 }

-- with one that is an instance, and with any other
abbrev pub with_new_instance : EntityData → ResourceData → ContainerUpdate → EntityData
with_new_instance e r f = after_joining e r (Some f)

abbrev pub with_new_resource : EntityData → ResourceData → EntityData
with_new_resource e r = after_joining e r None

-- what the resource of a creation does besides
abbrev pub container_update_of : Creation → Option ContainerUpdate
container_update_of c =
    if is_ty c.ty ContentInstance
    then Some (record {
      container = c.parent.number;
      state = next_state c.parent;
      gone = pushed_out c.e c.parent (Some (new_size c));
    })
    else None

-- the structured address of a resource that comes last (TS-0001, 9.3.1)
abbrev pub address_last : EntityData → ResourceData → Data
address_last e r = text (structured_of r.number (e.nodes ++ r ∷ []))

-- The content that shows the attributes of a new resource and its address (TS-0004, 7.5.2; TS-0001,
-- 8.1.2).
abbrev pub attributes_and_address : EntityData → ResourceData → Data
attributes_and_address e r =
    object (pairs_of ((
      rce_name,
      object (pairs_of (
          typed_member r.ty (members_of (shown_rows e.home e.nodes r))
          ∷ (codes "uri", address_last e r) ∷ [])),
    ) ∷ []))

-- the content of the reply by the result content that is asked for: nothing, the attributes, the
-- address, or both (TS-0001, 8.1.2)
abbrev pub created_content : ℤ → EntityData → ResourceData → Option Data
created_content rcn e r =
    if int_eq rcn nothing_wanted then None else
    if int_eq rcn attributes_wanted then Some (attributes_of e.home e.nodes r) else
    if int_eq rcn address_wanted
    then Some (object (pairs_of ((codes "m2m:uri", address_last e r) ∷ [])))
    else Some (attributes_and_address e r)

-- What comes of a creation: the reply says that the resource was created, and the resource joins
-- the entity (TS-0001, 10.2.2).
abbrev pub create_effect : RequestParts → Creation → Effect
create_effect request c = record {
  reply = reply_to request Created
      (created_content (wanted_content request.rcn) c.e (new_resource c));
  after = after_joining c.e (new_resource c) (container_update_of c);
}

-- ---- Update

-- the moment of expiry after an update: the one that is named, the last one where it is cleared,
-- else the one before
abbrev pub expiry_after : List Entry → ℕ → ℕ
expiry_after es et = if is_named Et es then expiry_for es else et

-- a container counts its changes
abbrev pub state_row : ResourceData → List Row
state_row r = if is_ty r.ty Container then (St, number (pos (next_state r))) ∷ [] else []

-- what the CSE changes besides: a container counts its changes, and a group keeps the members that
-- it is to have from now on, with what is known of them (TS-0001, 9.6.13)
abbrev pub own_rows : EntityData → List Entry → ResourceData → List Row
own_rows e es r = state_row r ++ group_rows e (membership_edited r es)

-- the resource after an update that names these attributes
abbrev pub updated_resource : EntityData → List Entry → ResourceData → ResourceData
updated_resource e es r = record r {
  lt = e.last;
  et = expiry_after es r.et;
  attrs =
      with_rows (own_rows e es r ++ link_row e es Acpi ++ link_row e es Macp)
      (edited (edit_in es) r.attrs);
}

-- the resource after the update that a request asks for
abbrev pub updated_by : EntityData → RequestParts → ResourceData → ResourceData
updated_by e request r = updated_resource e (named_by Update request r) r

-- a container pushes out what doesn't fit its limits any more
abbrev pub pushed_by : EntityData → ResourceData → List ℕ
pushed_by e r = if is_ty r.ty Container then pushed_out e r None else []

-- the list in which it is as it is now
abbrev pub nodes_updated : EntityData → ResourceData → List ResourceData
nodes_updated e r = without_all (pushed_by e r) (replaced r e.nodes)

-- the named attributes that have a value now, and `lt` (the choice is the profile's)
abbrev pub is_told_at : List Entry → Attr → Bool
is_told_at es attr = is_named attr es || is_attr attr Lt

-- The reply to an update tells this row.
abbrev pub is_told : List Entry → Row → Bool
is_told es row = is_told_at es row.0

-- The rows that the reply to an update tells, as they are shown.
abbrev pub told_rows : EntityData → List Entry → ResourceData → List Row
told_rows e es r = filter (is_told es) (shown_rows e.home e.nodes r)

-- the content of the reply by the result content that is asked for: nothing, or these
abbrev pub updated_content : ℤ → EntityData → List Entry → ResourceData → Option Data
updated_content rcn e es r =
    if int_eq rcn nothing_wanted then None else Some (wrapped r.ty (told_rows e es r))

-- what comes of an update that names these attributes and leaves the resource so
abbrev pub updated_to : EntityData → RequestParts → List Entry → ResourceData → Effect
updated_to e request es r = record {
  reply = reply_to request Updated (updated_content (wanted_content request.rcn) e es r);
  after = record e { nodes = nodes_updated e r };
}

abbrev pub update_effect : EntityData → RequestParts → List Entry → ResourceData → Effect
update_effect e request es r = updated_to e request es (updated_resource e es r)

-- ---- Delete

-- the resource is gone, and all that stands below it (TS-0001, 10.2.5)
abbrev pub delete_effect : EntityData → RequestParts → ResourceData → Effect
delete_effect e request r = record {
  reply = reply_to request Deleted None;
  after = record e { nodes = without (has_number r.number) e.nodes };
}

-- ---- an operation that may change something

-- what it does where it isn't refused; the others change nothing, and are done elsewhere
abbrev pub effect_by : Op → EntityData → List ℕ → RequestParts → ResourceData → Effect
effect_by Create e originator request parent =
    option_map_or (λ ty. create_effect request (creation_by e originator request parent ty))
    (child_ty request) (refused e request BadChild)
effect_by Update e originator request r = update_effect e request (named_by Update request r) r
effect_by Delete e originator request r = delete_effect e request r
effect_by Retrieve e originator request r = refused e request NotAllowed
effect_by Notify e originator request r = refused e request NotAllowed

-- what comes of it on a resource that is there
abbrev pub effect_on : Op → EntityData → List ℕ → RequestParts → ResourceData → Effect
effect_on op e originator request target =
    unless_refused (places op e originator request target) e request
    (effect_by op e originator request target)

-- what comes of it on the resource of a number, which is looked up once
abbrev pub effect_at : Op → EntityData → List ℕ → RequestParts → ℕ → Effect
effect_at op e originator request n =
    on_found e request (effect_on op e originator request) (at n e.nodes)
