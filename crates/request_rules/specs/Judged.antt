-- What judging a request gives: why it is refused, or what it asks for.
use Rattle.std.specs.Prelude.{◌≡◌, ◌≤◌, ℕ, List, Option, Some, None, Result, Ok, Err, IsUtf8, ⊤}
use Rattle.m2m_names.specs.Stamps.{last_moment}
use Rattle.m2m_names.specs.declared.attributes.Attr.TheVariants.{Acpi, Macp}
use Rattle.m2m_names.specs.declared.codes.Rsc.{Rsc}
use Rattle.m2m_names.specs.declared.types.Ty.{Ty}
use Rattle.m2m_value.specs.Data.{Entry}
use Rattle.primitive_json.specs.declared.request.RequestParts.{RequestParts}
use Rattle.resource_model.specs.Resource.{ResourceData}
use Rattle.tree_model.specs.Tree.{at}
use Rattle.entity_model.specs.Entity.{EntityData}
use Rattle.entity_model.specs.Sound.{IsSoundEntity}
use Rattle.request_rules.specs.Asked.{Creation, creation_of}
use Rattle.request_rules.specs.Creation.{name_for, size_named}
use Rattle.request_rules.specs.Groups.{group_rows, membership_by, membership_edited}
use Rattle.request_rules.specs.Policies.{listed, policy_ids}
use Rattle.request_rules.specs.Requests.{child_ty, content_for, expiry_for}
use Rattle.request_rules.specs.declared.allowed.AllowedCreate.{AllowedCreate}
use Rattle.request_rules.specs.declared.allowed.AllowedUpdate.{AllowedUpdate}
use Rattle.request_rules.specs.declared.allowed.Links.{Links}
use Rattle.request_rules.specs.declared.judging.Refusal.{Refusal}
use Rattle.request_rules.specs.declared.judging.Refusal.TheVariants.{Fault, OutOfMemory}

-- The request is refused with this status, where there is one, and else gives what is so; unless
-- memory runs out.
abbrev pub Judges : {X : Type 0} → Result X Refusal → Option Rsc → (X → Type 0) → Type 0
Judges (Ok x) fault IsSo = (fault ≡ None) × IsSo x
Judges (Err (Fault f)) fault IsSo = fault ≡ Some f
Judges (Err OutOfMemory) fault IsSo = ⊤

-- These are the resource ids of the policies that a content with these attributes names at `acpi`
-- and at `macp`, in order and with repeats.
pub record AreLinksOf (e : EntityData) (es : List Entry) (links : Links) : Type 0 where
  pub acpi : links.acpi.items ≡ policy_ids e (listed Acpi es)
  pub macp : links.macp.items ≡ policy_ids e (listed Macp es)

-- These are the parent and the type of the Create that a request asks for on the resource of a
-- number of a sound entity, the attributes that its content names, the name, the expiry and the
-- size of a content by these, what a group keeps of its members, and the policies that are named.
pub record IsCreateOf (e : EntityData) (request : RequestParts) (n : ℕ) (create : AllowedCreate)
    : Type 0 where
  pub sound : IsSoundEntity e
  pub parent : at n e.nodes ≡ Some create.parent.now
  pub ty : child_ty request ≡ Some create.ty
  pub named : content_for request create.ty ≡ Some create.named.now
  pub name : create.name ≡ name_for create.ty e.next create.named.now
  pub utf8 : IsUtf8 create.name
  pub expiry : create.et ≡ expiry_for create.named.now
  pub last : create.et ≤ last_moment
  pub size : create.size ≡ size_named create.named.now
  pub members : create.members.items ≡ group_rows e (membership_by create.ty create.named.now)
  pub links : AreLinksOf e create.named.now create.links

-- These are the parts of a Create of a resource of this type under this one, which names these
-- attributes.
pub record IsCreateBy (e : EntityData) (kind : Ty) (under : ResourceData) (es : List Entry)
    (create : AllowedCreate) : Type 0 where
  pub parent : create.parent.now ≡ under
  pub ty : create.ty ≡ kind
  pub named : create.named.now ≡ es
  pub name : create.name ≡ name_for kind e.next es
  pub utf8 : IsUtf8 create.name
  pub expiry : create.et ≡ expiry_for es
  pub last : create.et ≤ last_moment
  pub size : create.size ≡ size_named es
  pub members : create.members.items ≡ group_rows e (membership_by kind es)
  pub links : AreLinksOf e es create.links

-- These are the resource of the Update that it asks for, the attributes that its content names,
-- what a group keeps of the members that this names, and the policies that are named.
pub record IsUpdateOf (e : EntityData) (request : RequestParts) (n : ℕ) (update : AllowedUpdate)
    : Type 0 where
  pub sound : IsSoundEntity e
  pub target : at n e.nodes ≡ Some update.target.now
  pub named : content_for request update.target.now.ty ≡ Some update.named.now
  pub members :
      update.members.items ≡ group_rows e (membership_edited update.target.now update.named.now)
  pub links : AreLinksOf e update.named.now update.links

-- These are the parts of an Update of this resource, which names these attributes.
pub record IsUpdateBy (e : EntityData) (r : ResourceData) (es : List Entry) (update : AllowedUpdate)
    : Type 0 where
  pub target : update.target.now ≡ r
  pub named : update.named.now ≡ es
  pub members : update.members.items ≡ group_rows e (membership_edited r es)
  pub links : AreLinksOf e es update.links

-- the creation that it asks of the entity
abbrev pub creation_for : EntityData → List ℕ → AllowedCreate → Creation
creation_for e originator create =
    creation_of e originator create.ty create.parent.now create.named.now
